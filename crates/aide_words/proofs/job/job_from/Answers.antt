use Rattle.std.proofs.Common.{◌≡◌, sym, refl, Bool, true, false, rules}
use Rattle.std.proofs.Math.Bool.{beq}
use Rattle.clap.proofs.WalkLemmas.{first_value-rows}
use Rattle.aide_words.specs.Job.{exactly_one}
use Rattle.aide_words.proofs.JobLemmas.{job-none, job-made, job-some}
use Rattle.aide_words.proofs.job.job_from.Goals as goal

same : (a b : Bool) → beq a b ≡ true → exactly_one a b ≡ false
same true true e = refl
same true false e = sym e
same false true e = sym e
same false false e = refl

other : (a b : Bool) → beq a b ≡ false → exactly_one a b ≡ true
other true true e = sym e
other true false e = refl
other false true e = refl
other false false e = sym e

pub returns-in_default-clause-usage : goal.returns-in_default-clause-usage
returns-in_default-clause-usage c = search (rules, job-none, first_value-rows)

pub returns-clause-ok : goal.returns-clause-ok
returns-clause-ok c = search (rules, job-some, other, first_value-rows, job-made)
