use Rattle.std.proofs.Common.{◌≡◌, length}
use Rattle.aide_entry.specs.Skipped.{skipped_below, skipped_in}
use Rattle.aide_entry.proofs.columns.skipped_bits.Given as goal

abbrev pub invariant-columns : goal.invariant-columns
invariant-columns l = skipped_below l.rest l.bits ≡ skipped_in l.columns

abbrev pub decreases-columns : goal.decreases-columns
decreases-columns l = length l.rest
