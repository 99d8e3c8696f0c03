use Rattle.std.proofs.Common.{rules}
use Rattle.aide_words.specs.Job.{job_of}
use Rattle.aide_site.proofs.Closings.{closes_misused, closes_starved}
use Rattle.aide_site.proofs.AnswerSteps.{job_is}
use Rattle.aide_site.proofs.HeldLemmas.{held_still, same_held}
use Rattle.aide_site.proofs.PutLemmas.{appends_none}
use Rattle.aide_report_session.proofs.program.run_words.Goals as goal

pub returns-then-job-clause-closes : goal.returns-then-job-clause-closes
returns-then-job-clause-closes g c = c.compare_job.ensures.closes (job_of c.args.words.now) c.in-Ok.ensures.ok

pub returns-then-job-clause-bound : goal.returns-then-job-clause-bound
returns-then-job-clause-bound g c = search (rules, job_is)

pub returns-in-Ok-clause-closes : goal.returns-in-Ok-clause-closes
returns-in-Ok-clause-closes g c = c.check_job.ensures.closes (job_of c.args.words.now) c.in-Ok.ensures.ok

pub returns-in-Ok-clause-bound : goal.returns-in-Ok-clause-bound
returns-in-Ok-clause-bound g c = search (rules, held_still)

pub returns-in-Err-Usage-clause-closes : goal.returns-in-Err-Usage-clause-closes
returns-in-Err-Usage-clause-closes g c = search (rules, appends_none, closes_misused)

pub returns-in-Err-Usage-clause-bound : goal.returns-in-Err-Usage-clause-bound
returns-in-Err-Usage-clause-bound g c = search (rules, same_held)

pub returns-clause-closes : goal.returns-clause-closes
returns-clause-closes g c = search (rules, appends_none, closes_starved)

pub returns-clause-bound : goal.returns-clause-bound
returns-clause-bound g c = search (rules, same_held)
