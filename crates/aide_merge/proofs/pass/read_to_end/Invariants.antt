-- What the calls so far keep, of a cursor that has not failed.
use Rattle.aide_merge.specs.code.MergeCalls.{KeepsCursor}
use Rattle.aide_merge.specs.Standing.{IsUnfailed, left_of}
use Rattle.aide_merge.proofs.pass.read_to_end.Given as goal

abbrev pub invariant-read : goal.invariant-read
invariant-read g l = record {
  keeps : KeepsCursor g.R.Reel l.fn.cursor l.cursor l.fn.desk l.desk;
  unfailed : IsUnfailed l.cursor.stage;
}

abbrev pub decreases-read : goal.decreases-read
decreases-read g l = left_of l.cursor
