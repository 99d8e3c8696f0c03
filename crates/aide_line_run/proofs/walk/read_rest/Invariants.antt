use Rattle.aide_merge.specs.code.MergeCalls.{KeepsMerge}
use Rattle.aide_merge.specs.code.Merging.{IsReady, total_work}
use Rattle.aide_line_run.proofs.walk.read_rest.Given as goal

abbrev pub invariant-rest : goal.invariant-rest
invariant-rest g l = record {
  ready : IsReady l.merge l.desk;
  keeps : KeepsMerge g.R.Reel l.fn.merge l.merge l.fn.desk l.desk;
}

abbrev pub decreases-rest : goal.decreases-rest
decreases-rest g l = total_work l.merge
