use Rattle.std.proofs.Common.{arith, ◌∙◌}
use Rattle.std.proofs.lemmas.Grind.{common_steps}
use Rattle.aide_fields.proofs.NumberLemmas.{short_natural, no_natural}
use Rattle.aide_fields.proofs.number.is_natural.Goals as goal

pub returns-then-is_empty : goal.returns-then-is_empty
returns-then-is_empty c = no_natural c.args.digits.now (grind (arith, common_steps))

pub returns : goal.returns
returns c = c.all_digits.ensures ∙ short_natural c.args.digits.now (grind (arith, common_steps)) (omega arith)
