use Rattle.aide_attr.proofs.attr.Attr.detail_name.Goals as goal

pub returns : goal.returns
returns c = c.row.ensures.detail_name
