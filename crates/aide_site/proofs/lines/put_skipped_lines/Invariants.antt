use Rattle.std.specs.List.{flat_map}
use Rattle.aide_site.specs.Lines.{below, line_if_skipped}
use Rattle.aide_text.specs.PenSheet.{on_sheet}
use Rattle.aide_text.specs.Sheet.{Wrote}
use Rattle.aide_site.proofs.lines.put_skipped_lines.Given as goal

abbrev pub invariant-loop-index : goal.invariant-loop-index
invariant-loop-index g l =
    Wrote (flat_map (line_if_skipped l.side l.columns) (below l.index)) (on_sheet g.E.Sink l.fn.err l.fn.pen)
    (on_sheet g.E.Sink l.err l.pen)
