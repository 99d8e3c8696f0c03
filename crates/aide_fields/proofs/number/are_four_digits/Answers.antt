use Rattle.std.proofs.Common.{arith}
use Rattle.std.proofs.lemmas.Grind.{common_steps}
use Rattle.aide_fields.proofs.number.are_four_digits.Goals as goal

pub returns : goal.returns
returns c = grind (arith, common_steps)
