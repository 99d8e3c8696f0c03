use Rattle.std.proofs.Common.{length}
use Rattle.aide_text.specs.PenSheet.{on_sheet}
use Rattle.aide_text.specs.Printed.{printed}
use Rattle.aide_text.specs.PrintedRest.{printed_rest}
use Rattle.aide_text.specs.Sheet.{Writing}
use Rattle.aide_text.proofs.pen.put_path.Given as goal

-- the printed bytes that have been written and those that are left are all
abbrev pub invariant-pieces : goal.invariant-pieces
invariant-pieces g l =
    Writing (printed (g.B.Feed.rest l.fn.path)) (printed_rest g.B.Feed.rest l.text) (on_sheet g.W.Sink l.fn.out l.fn.pen)
    (on_sheet g.W.Sink l.out l.pen)

abbrev pub decreases-pieces : goal.decreases-pieces
decreases-pieces g l = length (printed_rest g.B.Feed.rest l.text)
