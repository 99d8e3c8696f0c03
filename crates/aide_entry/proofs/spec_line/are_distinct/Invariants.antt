use Rattle.std.proofs.Common.{◌≡◌, length}
use Rattle.aide_entry.specs.Fields.{are_distinct}
use Rattle.aide_entry.proofs.spec_line.are_distinct.Given as goal

abbrev pub invariant-columns : goal.invariant-columns
invariant-columns l = are_distinct l.rest ≡ are_distinct l.columns

abbrev pub decreases-columns : goal.decreases-columns
decreases-columns l = length l.rest
