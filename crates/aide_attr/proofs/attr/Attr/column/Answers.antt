use Rattle.aide_attr.proofs.attr.Attr.column.Goals as goal

pub returns : goal.returns
returns c = c.row.ensures.column
