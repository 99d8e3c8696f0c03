use Rattle.std.proofs.Common.{arith}
use Rattle.std.proofs.lemmas.List.{take-replicate}
use Rattle.aide_text.proofs.lines.blanks.Goals as goal

pub returns : goal.returns
returns c = take-replicate c.args.count 32 32 (omega (arith, c.requires))
