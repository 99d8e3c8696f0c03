use Rattle.std.proofs.Common.{rules, ◌≡◌, ◌∙◌, ap, ap₂, codes, true}
use Rattle.std.proofs.lemmas.Result.{IfOk-weaker}
use Rattle.aide_words.specs.Job.{option_rule}
use Rattle.clap.specs.Walk.{Rule, rule_of}
use Rattle.clap.specs.Simple.{with_rule}
use Rattle.clap.specs.Words.{app_of}
use Rattle.clap.specs.declared.builder.action.ArgAction.TheVariants.{Set}
use Rattle.aide_words.proofs.job.add_texts.Goals as goal

pub returns : goal.returns
returns c =
    let config_is : rule_of c.required.result ≡ record (option_rule (codes "config") 99 Set) { required = true } =
    ap rule_of c.required.ensures ∙ ap (λ (r : Rule). record r { required = true }) c.option.ensures.rule in
    let one = c.in_ok-arg.ensures.shape (search rules) ∙ ap (with_rule (app_of c.args.command)) config_is in
    let two = c.in_ok-arg-2.ensures.shape c.option-2.ensures.local ∙ ap₂ with_rule one c.option-2.ensures.rule in
    IfOk-weaker c.arg-3.result _ _ (λ r h. h.shape c.option-3.ensures.local ∙ ap₂ with_rule two c.option-3.ensures.rule)
    c.arg-3.ensures
