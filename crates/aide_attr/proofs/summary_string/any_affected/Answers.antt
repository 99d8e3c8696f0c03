use Rattle.std.proofs.Common.{rules}
use Rattle.aide_attr.proofs.DifferenceLemmas.{any_has}
use Rattle.aide_attr.proofs.summary_string.any_affected.Goals as goal

pub returns : goal.returns
returns c = search (rules, any_has)
