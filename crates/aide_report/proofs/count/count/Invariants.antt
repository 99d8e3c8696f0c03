-- What has been counted and what the merge has still to give is the whole.
use Rattle.std.proofs.Common.{◌^◌, ◌-◌, ℕ, List}
use Rattle.aide_db.specs.declared.side.Side.TheVariants.{Old, New}
use Rattle.aide_report.specs.code.Counts.{Completes, AreBelow}
use Rattle.aide_merge.specs.code.Merging.{remaining, IsReady, StandsAt, total_work}
use Rattle.aide_merge.specs.code.MergeCalls.{KeepsMerge}
use Rattle.aide_report.proofs.count.count.Given as goal

abbrev pub invariant-pass : goal.invariant-pass
invariant-pass g l = record {
  ready : IsReady l.merge l.desk;
  small : AreBelow l.counts (2 ^ 62 - total_work l.merge);
  keeps : KeepsMerge g.R.Reel l.fn.merge l.merge l.fn.desk l.desk;
  counts : (old new : List ℕ) → StandsAt g.R.Reel.to_come l.fn.merge l.fn.desk Old old
      → StandsAt g.R.Reel.to_come l.fn.merge l.fn.desk New new
      → Completes l.options l.counts (remaining l.merge l.desk old new) (remaining l.fn.merge l.fn.desk old new);
}

abbrev pub decreases-pass : goal.decreases-pass
decreases-pass g l = total_work l.merge
