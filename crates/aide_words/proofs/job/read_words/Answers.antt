use Rattle.std.proofs.Common.{◌∙◌, ap, rules}
use Rattle.clap.specs.Faults.{is_simple_and_free}
use Rattle.clap.specs.Simple.{is_simple}
use Rattle.aide_words.proofs.JobLemmas.{aide_is_free, aide_is_simple, job-of-rows, job-rows, matched_by, no-job}
use Rattle.aide_words.proofs.job.read_words.Goals as goal

pub matches-requires-clause-simple : goal.matches-requires-clause-simple
matches-requires-clause-simple c = ap is_simple c.in-Ok.ensures ∙ aide_is_simple

pub matches-requires-clause-free : goal.matches-requires-clause-free
matches-requires-clause-free c = ap is_simple_and_free c.in-Ok.ensures ∙ aide_is_free

pub returns-clause-ok : goal.returns-clause-ok
returns-clause-ok c =
    job-of-rows _ _ _ c.as_slice.ensures (matched_by _ _ _ _ c.in-Ok.ensures c.in_ok-found.ensures.ok) _ c.job_from.ensures.ok

pub returns-clause-usage : goal.returns-clause-usage
returns-clause-usage c e =
    job-rows _ _ _ c.as_slice.ensures (matched_by _ _ _ _ c.in-Ok.ensures c.in_ok-found.ensures.ok) ∙ c.job_from.ensures.usage e

pub returns-in_err-found-clause-usage : goal.returns-in_err-found-clause-usage
returns-in_err-found-clause-usage c is =
    no-job _ _ _ c.as_slice.ensures c.in-Ok.ensures (c.in_err-found.ensures.usage (search (rules, is, c.from_residual.ensures)))
