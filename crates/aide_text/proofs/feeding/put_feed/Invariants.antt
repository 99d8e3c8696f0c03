use Rattle.std.proofs.Common.{length}
use Rattle.aide_text.specs.PenSheet.{on_sheet}
use Rattle.aide_text.specs.Sheet.{Writing}
use Rattle.aide_text.proofs.feeding.put_feed.Given as goal

-- the bytes that have been written and those that are left are all
abbrev pub invariant-pieces : goal.invariant-pieces
invariant-pieces g l =
    Writing (g.B.Feed.rest l.fn.text) (g.B.Feed.rest l.text) (on_sheet g.W.Sink l.fn.out l.fn.pen) (on_sheet g.W.Sink l.out l.pen)

abbrev pub decreases-pieces : goal.decreases-pieces
decreases-pieces g l = length (g.B.Feed.rest l.text)
