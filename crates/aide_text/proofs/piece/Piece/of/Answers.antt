use Rattle.std.proofs.lemmas.Grind.{common_steps}
use Rattle.std.proofs.Common.{arith, take, sym, ◌∙◌}
use Rattle.std.proofs.lemmas.List.{length-take}
use Rattle.aide_text.proofs.Pieces.{one_byte, cut_full, cut_short}
use Rattle.aide_text.proofs.piece.Piece.of.Goals as goal

pub bytes-preserved : goal.bytes-preserved
bytes-preserved g c = grind (arith, common_steps, one_byte)

pub returns-in-None-clause-piece : goal.returns-in-None-clause-piece
returns-in-None-clause-piece g c =
    (cut_short (take c.bytes.len c.bytes.bytes) (g.T.Feed.rest c.bytes.text)
    (g.T.Feed.rest c.args.text.now) c.bytes.invariant.whole c.in-None.ensures.0
    (omega (arith, length-take c.bytes.len c.bytes.bytes, c.bytes.invariant.fits))).0

pub returns-in-None-clause-rest : goal.returns-in-None-clause-rest
returns-in-None-clause-rest g c = c.in-None.ensures.1 ∙ sym c.in-None.ensures.0 ∙
    (cut_short (take c.bytes.len c.bytes.bytes) (g.T.Feed.rest c.bytes.text)
    (g.T.Feed.rest c.args.text.now) c.bytes.invariant.whole c.in-None.ensures.0
    (omega (arith, length-take c.bytes.len c.bytes.bytes, c.bytes.invariant.fits))).1

pub returns-clause-piece : goal.returns-clause-piece
returns-clause-piece g c =
    (cut_full (take c.bytes.len c.bytes.bytes) (g.T.Feed.rest c.bytes.text) (g.T.Feed.rest c.args.text.now) c.bytes.invariant.whole
    (omega (arith, length-take c.bytes.len c.bytes.bytes, c.bytes.invariant.size))).0

pub returns-clause-rest : goal.returns-clause-rest
returns-clause-rest g c =
    (cut_full (take c.bytes.len c.bytes.bytes) (g.T.Feed.rest c.bytes.text) (g.T.Feed.rest c.args.text.now) c.bytes.invariant.whole
    (omega (arith, length-take c.bytes.len c.bytes.bytes, c.bytes.invariant.size))).1
