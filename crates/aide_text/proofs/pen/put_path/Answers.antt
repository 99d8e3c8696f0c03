use Rattle.std.proofs.Common.{rules, ◌∙◌}
use Rattle.aide_text.specs.PrintedRest.{printed_rest}
use Rattle.aide_text.proofs.Pieces.{piece_more, piece_shorter, piece_none}
use Rattle.aide_text.proofs.Sheets.{writing_start, writing_more, writing_as, writing_done}
use Rattle.aide_text.proofs.pen.put_path.Goals as goal

pub pieces-init : goal.pieces-init
pieces-init g c = search (rules, writing_as, writing_start)

pub pieces-smaller : goal.pieces-smaller
pieces-smaller g c = search (rules, piece_shorter)

pub pieces-preserved : goal.pieces-preserved
pieces-preserved g c =
    writing_more (piece_more (printed_rest g.B.Feed.rest c.pieces.text) c.bytes.result.now (printed_rest g.B.Feed.rest c.of-piece.new.text)
    (c.bytes.ensures ∙ c.of-piece.ensures.piece) c.of-piece.ensures.rest) c.pieces.invariant c.put.ensures

pub returns-then-len-eq0 : goal.returns-then-len-eq0
returns-then-len-eq0 g c = search (rules, writing_done, piece_none)
