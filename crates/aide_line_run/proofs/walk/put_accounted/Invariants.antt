-- What was written and counted, and what is still to come, is the whole.
use Rattle.std.proofs.Common.{◌≡◌, ◌-◌, ◌^◌, false}
use Rattle.aide_line_run.specs.code.LineTally.{AreLinesBelow}
use Rattle.aide_merge.specs.code.Merging.{IsReady, IsWithinLimits, total_work}
use Rattle.aide_text.specs.PenSheet.{on_sheet}
use Rattle.aide_line_run.specs.ListView.{list_read}
use Rattle.aide_line_run.specs.code.Walked.{IsWalking, KeepsMerges}
use Rattle.aide_line_run.proofs.walk.put_accounted.Given as goal

abbrev pub invariant-pass : goal.invariant-pass
invariant-pass g l = record {
  ready : IsReady l.merges.compared l.desk;
  trusted_ready : IsReady l.merges.trusted l.trusted_desk;
  within : IsWithinLimits l.merges.compared;
  trusted_within : IsWithinLimits l.merges.trusted;
  small : AreLinesBelow l.counts (2 ^ 62 - total_work l.merges.compared);
  writes_on : l.pen.failed ≡ false;
  keeps : KeepsMerges g.R.Reel l.fn.merges l.merges l.fn.desk l.desk l.fn.trusted_desk l.trusted_desk;
  walking : IsWalking g.R.Reel (list_read l.terms.list) l.terms.options.now l.fn.merges l.merges l.fn.desk l.desk l.fn.trusted_desk
      l.trusted_desk l.counts
      (on_sheet g.W.Sink l.fn.out l.fn.pen) (on_sheet g.W.Sink l.out l.pen);
}

abbrev pub decreases-pass : goal.decreases-pass
decreases-pass g l = total_work l.merges.compared
