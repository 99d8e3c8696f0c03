use Rattle.std.proofs.Common.{rules}
use Rattle.aide_attr.proofs.AttrLemmas.{bit_small}
use Rattle.aide_attr.proofs.attr.Attr.bit.Goals as goal

pub returns-clause-same : goal.returns-clause-same
returns-clause-same c = c.row.ensures.bit

pub returns-clause-small : goal.returns-clause-small
returns-clause-small c = search (rules, bit_small)
