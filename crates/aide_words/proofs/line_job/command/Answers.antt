use Rattle.std.proofs.Common.{◌∙◌, ap}
use Rattle.std.proofs.lemmas.Result.{IfOk-weaker}
use Rattle.aide_words.specs.Job.{with_texts}
use Rattle.aide_words.specs.LineJob.{line_command, with_compare, with_list, with_trusted}
use Rattle.aide_words.proofs.line_job.command.Goals as goal

pub returns : goal.returns
unfolding line_command
returns c =
    let compares = c.in_ok-command.ensures ∙ ap with_compare c.new.ensures.app in
    let reads = c.in_ok-command-2.ensures ∙ ap with_texts compares in
    let trusts = c.in_ok-command-3.ensures ∙ ap with_trusted reads in
    IfOk-weaker c.add_list.result _ _ (λ r is. is ∙ ap with_list trusts) c.add_list.ensures
