use Rattle.std.proofs.Common.{◌∙◌, ap, rules}
use Rattle.clap.specs.Faults.{is_simple_and_free}
use Rattle.clap.specs.Simple.{is_simple}
use Rattle.clap.specs.Words.{app_of, found_of, rows_of}
use Rattle.aide_words.specs.LineJob.{line_command}
use Rattle.aide_words.proofs.LineJobLemmas.{line_command_is_free, line_command_is_simple, job_of_options, job_that_was_made, no_line_job}
use Rattle.aide_words.proofs.JobLemmas.{matched_by}
use Rattle.aide_words.proofs.line_job.read_line_words.Goals as goal

pub matches-requires-clause-simple : goal.matches-requires-clause-simple
matches-requires-clause-simple c = ap is_simple c.in-Ok.ensures ∙ line_command_is_simple

pub matches-requires-clause-free : goal.matches-requires-clause-free
matches-requires-clause-free c = ap is_simple_and_free c.in-Ok.ensures ∙ line_command_is_free

pub returns-clause-ok : goal.returns-clause-ok
returns-clause-ok c =
    let v = c.as_slice.result.now in
    let rows = rows_of (found_of c.in_ok-found.found) in
    job_that_was_made v c.args.words.now rows c.as_slice.ensures
    (matched_by (app_of c.in-Ok.command) line_command v rows c.in-Ok.ensures c.in_ok-found.ensures.ok)
    c.line_job_from.result c.line_job_from.ensures.ok

pub returns-clause-usage : goal.returns-clause-usage
returns-clause-usage c = λ is.
    let v = c.as_slice.result.now in
    let rows = rows_of (found_of c.in_ok-found.found) in
    job_of_options v c.args.words.now rows c.as_slice.ensures
    (matched_by (app_of c.in-Ok.command) line_command v rows c.in-Ok.ensures c.in_ok-found.ensures.ok)
    ∙ c.line_job_from.ensures.usage is

pub returns-in_err-found-clause-usage : goal.returns-in_err-found-clause-usage
returns-in_err-found-clause-usage c is =
    no_line_job _ _ _ c.as_slice.ensures c.in-Ok.ensures (c.in_err-found.ensures.usage (search (rules, is, c.from_residual.ensures)))
