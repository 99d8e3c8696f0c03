use Rattle.std.proofs.Common.{rules}
use Rattle.std.proofs.lemmas.Result.{IfOk-weaker}
use Rattle.aide_words.specs.Job.{aide_command}
use Rattle.aide_words.proofs.job.command.Goals as goal

pub returns : goal.returns
unfolding aide_command
returns c = search (rules, IfOk-weaker)
