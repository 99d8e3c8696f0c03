use Rattle.std.proofs.Common.{◌∙◌, ap, ap₂}
use Rattle.std.proofs.lemmas.Result.{IfOk-weaker}
use Rattle.clap.specs.Simple.{with_rule}
use Rattle.clap.specs.Words.{app_of}
use Rattle.aide_words.proofs.line_job.add_trusted.Goals as goal

pub returns : goal.returns
returns c =
    let one =
    c.in_ok-arg.ensures.shape c.long_option.ensures.local
    ∙ ap (with_rule (app_of c.args.command)) c.long_option.ensures.rule in
    IfOk-weaker c.arg-2.result _ _
    (λ r h. h.shape c.long_option-2.ensures.local ∙ ap₂ with_rule one c.long_option-2.ensures.rule) c.arg-2.ensures
