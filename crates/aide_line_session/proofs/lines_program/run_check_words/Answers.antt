use Rattle.std.proofs.Common.{Some, refl, rules}
use Rattle.aide_words.specs.Job.{text_of_job}
use Rattle.aide_line_session.specs.LineSession.{check_job_of}
use Rattle.aide_line_session.specs.SettingsTold.{settings_told}
use Rattle.aide_line_session.proofs.CheckJobs.{compares_no_check, is_check, no_check}
use Rattle.aide_site.proofs.Closings.{closes_misused, closes_starved}
use Rattle.aide_site.proofs.PutLemmas.{appends_none}
use Rattle.aide_line_session.proofs.lines_program.run_check_words.Goals as goal

pub returns-then-job-clause-closes : goal.returns-then-job-clause-closes
returns-then-job-clause-closes g c =
    closes_misused (Some settings_told) _ _ (check_job_of c.args.words.now) _ _ _ _ _ _ _ _ _ _ _ refl (appends_none _) refl
    (compares_no_check c.args.words.now (text_of_job c.in-Ok.job) c.in-Ok.ensures.ok c.if-job.true) refl c.put_lines_usage_line.ensures

pub returns-else-job-clause-closes : goal.returns-else-job-clause-closes
returns-else-job-clause-closes g c = c.check_job.ensures.closes (check_job_of c.args.words.now)
    (is_check c.args.words.now (text_of_job c.in-Ok.job) c.in-Ok.ensures.ok c.if-job.false)

pub returns-in-Err-Usage-clause-closes : goal.returns-in-Err-Usage-clause-closes
returns-in-Err-Usage-clause-closes g c = search (rules, appends_none, closes_misused, no_check)

pub returns-in-Err-Memory-clause-closes : goal.returns-in-Err-Memory-clause-closes
returns-in-Err-Memory-clause-closes g c =
    closes_starved (Some settings_told) _ _ (check_job_of c.args.words.now) _ _ _ _ _ _ _ _ _ _ _ refl (appends_none _) refl refl
    c.put_memory_line.ensures
