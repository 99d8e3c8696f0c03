use Rattle.std.proofs.Common.{sym, arith, ◌∙◌}
use Rattle.std.proofs.lemmas.Grind.{common_steps}
use Rattle.aide_fields.proofs.NumberLemmas.{bits_plainly, no_bits}
use Rattle.aide_fields.proofs.number.is_bits.Goals as goal

pub returns-in_default : goal.returns-in_default
returns-in_default c = no_bits c.args.field.now (grind (arith, common_steps))

pub returns : goal.returns
returns c =
    c.is_natural.ensures ∙ sym (bits_plainly c.args.field.now _ _ c.in-Some.ensures.cases.0 c.if-first-eq45.false)
