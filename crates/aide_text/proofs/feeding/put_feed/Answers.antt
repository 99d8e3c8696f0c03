use Rattle.std.proofs.Common.{◌∙◌, rules}
use Rattle.aide_text.specs.PenSheet.{on_sheet}
use Rattle.aide_text.proofs.Pieces.{piece_more, piece_shorter, piece_none}
use Rattle.aide_text.proofs.Sheets.{writing_start, writing_more, writing_done}
use Rattle.aide_text.proofs.feeding.put_feed.Goals as goal

pub pieces-init : goal.pieces-init
pieces-init g c = writing_start (g.B.Feed.rest c.args.text) (on_sheet g.W.Sink c.args.out.now c.args.pen.now)

pub pieces-smaller : goal.pieces-smaller
pieces-smaller g c = search (rules, piece_shorter)

pub pieces-preserved : goal.pieces-preserved
pieces-preserved g c =
    writing_more (piece_more (g.B.Feed.rest c.pieces.text) c.bytes.result.now (g.B.Feed.rest c.of-piece.new.text)
    (c.bytes.ensures ∙ c.of-piece.ensures.piece) c.of-piece.ensures.rest) c.pieces.invariant c.put.ensures

pub returns-then-len-eq0 : goal.returns-then-len-eq0
returns-then-len-eq0 g c = search (rules, writing_done, piece_none)
