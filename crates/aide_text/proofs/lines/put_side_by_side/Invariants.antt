-- The lines that have been written and those of the rests are all.
use Rattle.std.proofs.Common.{◌+◌, length}
use Rattle.aide_text.specs.PenSheet.{on_sheet}
use Rattle.aide_text.specs.Sheet.{Writing}
use Rattle.aide_text.specs.Layout.{side_by_side}
use Rattle.aide_text.proofs.Pieces.{later_lines}
use Rattle.aide_text.proofs.lines.put_side_by_side.Given as goal

abbrev pub invariant-lines : goal.invariant-lines
invariant-lines g l =
    Writing (side_by_side l.fn.name (g.B.Feed.rest l.fn.old_text) (g.C.Feed.rest l.fn.new_text))
    (later_lines (g.B.Feed.rest l.old_text) (g.C.Feed.rest l.new_text))
    (on_sheet g.W.Sink l.fn.out l.fn.pen) (on_sheet g.W.Sink l.out l.pen)

abbrev pub decreases-lines : goal.decreases-lines
decreases-lines g l = length (g.B.Feed.rest l.old_text) + length (g.C.Feed.rest l.new_text)
