use Rattle.aide_attr.proofs.attr.Attr.name.Goals as goal

pub returns : goal.returns
returns c = c.row.ensures.name
