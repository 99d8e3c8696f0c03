-- The lines that have been written and those of the rest are all.
use Rattle.std.proofs.Common.{length}
use Rattle.aide_text.specs.PenSheet.{on_sheet}
use Rattle.aide_text.specs.Sheet.{Writing}
use Rattle.aide_text.specs.Layout.{alone}
use Rattle.aide_text.proofs.Pieces.{later_single}
use Rattle.aide_text.proofs.lines.put_alone.Given as goal

abbrev pub invariant-lines : goal.invariant-lines
invariant-lines g l =
    Writing (alone l.fn.name l.fn.text) (later_single l.rest) (on_sheet g.W.Sink l.fn.out l.fn.pen) (on_sheet g.W.Sink l.out l.pen)

abbrev pub decreases-lines : goal.decreases-lines
decreases-lines g l = length l.rest
