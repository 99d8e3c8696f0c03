use Rattle.std.proofs.Common.{sym, arith, ◌∙◌}
use Rattle.std.proofs.lemmas.Grind.{common_steps}
use Rattle.aide_fields.proofs.NumberLemmas.{number_plain, no_number}
use Rattle.aide_fields.proofs.number.is_number.Goals as goal

pub returns-in_default : goal.returns-in_default
returns-in_default c = no_number c.args.field.now (grind (arith, common_steps))

pub returns : goal.returns
returns c =
    c.is_natural.ensures ∙ sym (number_plain c.args.field.now _ _ c.in-Some.ensures.cases.0 c.if-first-eq45.false)
