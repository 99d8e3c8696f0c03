use Rattle.std.proofs.Common.{arith, sym}
use Rattle.std.proofs.lemmas.List.{take_all}
use Rattle.aide_text.proofs.lines.piece.Goals as goal

pub returns-then-text-lt32 : goal.returns-then-text-lt32
returns-then-text-lt32 c = sym (take_all 32 c.args.text.now (omega (arith, c.if-text-lt32.true)))
