-- The lines that have been written and those of the rests are all.
use Rattle.std.proofs.Common.{◌+◌, length}
use Rattle.aide_text.specs.PenSheet.{on_sheet}
use Rattle.aide_text.specs.Sheet.{Writing}
use Rattle.aide_text.specs.Layout.{side_by_side}
use Rattle.aide_text.proofs.Pieces.{later_lines}
use Rattle.aide_text.proofs.lines.put_texts_side_by_side.Given as goal

abbrev pub invariant-lines : goal.invariant-lines
invariant-lines g l =
    Writing (side_by_side l.fn.name l.fn.old_text l.fn.new_text) (later_lines l.old_rest l.new_rest)
    (on_sheet g.W.Sink l.fn.out l.fn.pen) (on_sheet g.W.Sink l.out l.pen)

abbrev pub decreases-lines : goal.decreases-lines
decreases-lines g l = length l.old_rest + length l.new_rest
