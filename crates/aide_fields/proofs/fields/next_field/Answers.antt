use Rattle.std.proofs.Common.{arith, ◌<◌, length}
use Rattle.aide_fields.proofs.FieldLemmas.{field_first_parts}
use Rattle.aide_fields.proofs.fields.next_field.Goals as goal

pub returns-clause-some : goal.returns-clause-some
returns-clause-some c =
    let lt : c.run_of-start.result < length c.args.line.now = omega arith in
    (field_first_parts c.args.line.now c.split_at.result.1.now _ _ c.run_of-start.result c.field_len-end.result c.split_at.ensures.back
    c.split_at-2.ensures.front c.split_at-2.ensures.back
    lt c.run_of-start.ensures.same (c.run_of-start.ensures.other lt) c.field_len-end.ensures.bound c.field_len-end.ensures.same
    c.field_len-end.ensures.other).0
