use Rattle.std.proofs.Common.{refl}
use Rattle.aide_entry.proofs.FirstColumnLemmas.{none_placed}
use Rattle.aide_entry.proofs.columns.Columns.none.Goals as goal

pub invariant_of-result-clause-placed : goal.invariant_of-result-clause-placed
invariant_of-result-clause-placed c = none_placed

pub invariant_of-result-clause-numbers : goal.invariant_of-result-clause-numbers
invariant_of-result-clause-numbers c = refl
