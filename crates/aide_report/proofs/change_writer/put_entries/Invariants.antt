-- What the section has said and what it has still to say is the whole.
use Rattle.std.proofs.Common.{◌≡◌, ℕ, List, false}
use Rattle.aide_db.specs.declared.side.Side.TheVariants.{Old, New}
use Rattle.aide_merge.specs.code.MergeCalls.{KeepsMerge}
use Rattle.aide_text.specs.PenSheet.{on_sheet}
use Rattle.std.specs.List.{flat_map}
use Rattle.aide_text.specs.Sheet.{Writing, WritesSome}
use Rattle.aide_merge.specs.code.Merging.{remaining, IsReady, StandsAt, total_work}
use Rattle.aide_report.proofs.change_writer.put_entries.Given as goal

abbrev pub invariant-pass : goal.invariant-pass
invariant-pass g l = record {
  ready : IsReady l.merge l.desk;
  writes_on : l.pen.failed ≡ false;
  keeps : KeepsMerge g.R.Reel l.fn.merge l.merge l.fn.desk l.desk;
  writes : (old new : List ℕ) → StandsAt g.R.Reel.to_come l.fn.merge l.fn.desk Old old
      → StandsAt g.R.Reel.to_come l.fn.merge l.fn.desk New new
      → Writing (flat_map (g.T.ChangeWriter.text_of l.writer) (remaining l.fn.merge l.fn.desk old new))
      (flat_map (g.T.ChangeWriter.text_of l.writer) (remaining l.merge l.desk old new))
      (on_sheet g.W.Sink l.fn.out l.fn.pen) (on_sheet g.W.Sink l.out l.pen);
  some : WritesSome (on_sheet g.W.Sink l.fn.out l.fn.pen) (on_sheet g.W.Sink l.out l.pen);
}

abbrev pub decreases-pass : goal.decreases-pass
decreases-pass g l = total_work l.merge
