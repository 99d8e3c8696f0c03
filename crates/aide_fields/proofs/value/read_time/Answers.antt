use Rattle.std.proofs.Common.{sym, ◌∙◌, rules}
use Rattle.aide_fields.proofs.FieldForms.{time_decoded, time_undecoded}
use Rattle.aide_fields.proofs.value.read_time.Goals as goal

pub returns-in-Ok : goal.returns-in-Ok
returns-in-Ok c = search (rules, time_decoded)

pub returns-in-Err : goal.returns-in-Err
returns-in-Err c =
    sym (time_undecoded c.args.field.now c.in-Err.field-0 (sym c.begins_number.ensures ∙ c.if-begins_number.false) c.in-Err.ensures.err)
