use Rattle.std.proofs.Common.{rules}
use Rattle.aide_words.proofs.line_job.line_job_from.Goals as goal

pub returns-clause-ok : goal.returns-clause-ok
returns-clause-ok c = search rules
