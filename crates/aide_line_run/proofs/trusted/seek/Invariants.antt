-- What is passed on comes before the path.
use Rattle.std.proofs.Common.{◌≡◌, ℕ, List}
use Rattle.aide_db.specs.declared.side.Side.TheVariants.{Old, New}
use Rattle.aide_merge.specs.code.ChangeView.{change_of}
use Rattle.aide_line_run.specs.Sought.{seek}
use Rattle.aide_line_run.specs.code.Over.{ReadsUpTo}
use Rattle.aide_merge.specs.code.MergeCalls.{KeepsMerge}
use Rattle.aide_merge.specs.code.Merging.{IsReady, IsWithinLimits, remaining, total_work}
use Rattle.aide_line_run.proofs.trusted.seek.Given as goal

abbrev pub invariant-seek : goal.invariant-seek
invariant-seek g l = record {
  ready : IsReady l.merge l.desk;
  within : IsWithinLimits l.merge;
  keeps : KeepsMerge g.R.Reel l.fn.merge l.merge l.fn.desk l.desk;
  same : (old new : List ℕ) → ReadsUpTo g.R.Reel.to_come l.fn.merge l.fn.desk Old old
      → ReadsUpTo g.R.Reel.to_come l.fn.merge l.fn.desk New new
      → seek (change_of l.change).0 (remaining l.fn.merge l.fn.desk old new)
      ≡ seek (change_of l.change).0 (remaining l.merge l.desk old new);
}

abbrev pub decreases-seek : goal.decreases-seek
decreases-seek g l = total_work l.merge
