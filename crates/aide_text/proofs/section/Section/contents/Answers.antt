use Rattle.aide_text.proofs.section.Section.contents.Goals as goal

pub returns : goal.returns
returns c = c.row.ensures.contents
