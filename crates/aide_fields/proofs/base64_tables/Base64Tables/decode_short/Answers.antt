use Rattle.std.proofs.Common.{sym, ◌∙◌}
use Rattle.std.proofs.lemmas.Result.{IfOk-weaker, IfErr-weaker}
use Rattle.aide_fields.specs.Base64Tables.{IsStandard}
use Rattle.aide_fields.proofs.base64_tables.Base64Tables.decode_short.Goals as goal

pub returns-clause-ok : goal.returns-clause-ok
unfolding IsStandard
returns-clause-ok c =
    IfOk-weaker c.decode_slice_unchecked.result _ _ (λ n into. (sym (c.self.invariant.0 c.args.field.now) ∙ into.0, into.1, into.2))
    c.decode_slice_unchecked.ensures.ok

pub returns-clause-err : goal.returns-clause-err
unfolding IsStandard
returns-clause-err c =
    IfErr-weaker c.decode_slice_unchecked.result _ _ (λ e is. sym (c.self.invariant.0 c.args.field.now) ∙ is)
    c.decode_slice_unchecked.ensures.err
