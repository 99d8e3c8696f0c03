use Rattle.std.proofs.Common.{rules}
use Rattle.aide_attr.specs.Attr.{row_of, row}
use Rattle.aide_attr.proofs.attr.Attr.index.Goals as goal

pub returns : goal.returns
unfolding row_of row
returns c = search rules
