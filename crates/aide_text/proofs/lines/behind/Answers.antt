use Rattle.std.proofs.Common.{arith, sym}
use Rattle.std.proofs.lemmas.List.{drop_all, take_rest}
use Rattle.aide_text.proofs.lines.behind.Goals as goal

pub returns-then-text-lt32 : goal.returns-then-text-lt32
returns-then-text-lt32 c = sym (drop_all 32 c.args.text.now (omega (arith, c.if-text-lt32.true)))

pub returns-else-text-lt32 : goal.returns-else-text-lt32
returns-else-text-lt32 c = take_rest c.args.text.now 32
