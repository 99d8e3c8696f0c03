use Rattle.std.proofs.Common.{sym, ◌∙◌, arith, rules}
use Rattle.aide_fields.proofs.FieldForms.{time_decoded, time_undecoded}
use Rattle.aide_fields.proofs.TenDigits.{ten_is_time}
use Rattle.aide_fields.proofs.value.is_time.Goals as goal

pub returns-then-are_ten : goal.returns-then-are_ten
returns-then-are_ten c =
    ten_is_time c.args.field.now (λ i. let f = c.type_inv.field i in omega arith) (sym c.are_ten.ensures ∙ c.if-are_ten.true)

pub returns-in-Ok : goal.returns-in-Ok
returns-in-Ok c = search (rules, time_decoded)

pub returns-in-Err : goal.returns-in-Err
returns-in-Err c = search (rules, time_undecoded)
