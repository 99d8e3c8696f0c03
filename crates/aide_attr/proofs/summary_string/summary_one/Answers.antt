use Rattle.std.proofs.Common.{rules}
use Rattle.aide_attr.proofs.summary_string.summary_one.Goals.{in-Added, in-Removed}
use Rattle.aide_attr.proofs.summary_string.summary_one.Goals as goal

pub returns : goal.returns
returns c = search (rules, in-Added, in-Removed)
