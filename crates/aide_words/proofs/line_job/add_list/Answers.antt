use Rattle.std.proofs.Common.{rules}
use Rattle.std.proofs.lemmas.Result.{IfOk-weaker}
use Rattle.aide_words.proofs.line_job.add_list.Goals as goal

pub returns : goal.returns
returns c = search (rules, IfOk-weaker)
