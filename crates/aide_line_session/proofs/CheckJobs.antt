-- The check of a configuration that the arguments ask for.
use Rattle.std.proofs.Common.{◌≡◌, ◌∙◌, ℕ, List, Option, Some, None, refl, sym, ap, Bool, true, false, if◌then◌else◌}
use Rattle.std.specs.Prelude.{option_and_then}
use Rattle.aide_line_session.specs.LineSession.{check_job_of}
use Rattle.aide_site.proofs.Closings.{OnlyChecks}
use Rattle.aide_words.specs.Job.{JobText, job_of}

-- the job, if it compares nothing
abbrev only_check : JobText → Option JobText
only_check job = if job.compare then None else Some job

pub no_check : (words : List (List ℕ)) → job_of words ≡ None → check_job_of words ≡ None
no_check words none = ap (option_and_then only_check) none

pub compares_no_check : (words : List (List ℕ)) (job : JobText) → job_of words ≡ Some job → job.compare ≡ true
    → check_job_of words ≡ None
compares_no_check words job is compares =
    ap (option_and_then only_check) is ∙ ap (λ (b : Bool). if b then None else Some job) compares

pub is_check : (words : List (List ℕ)) (job : JobText) → job_of words ≡ Some job → job.compare ≡ false
    → check_job_of words ≡ Some job
is_check words job is checks =
    ap (option_and_then only_check) is ∙ ap (λ (b : Bool). if b then None else Some job) checks

none_is_no_job : (job : JobText) → None ≡ Some job → ⊥
none_is_no_job job e = cc

abbrev job_or : JobText → Option JobText → JobText
job_or other None = other
job_or other (Some job) = job

one_check : (compares : Bool) (one job : JobText) → one.compare ≡ compares → (if compares then None else Some one) ≡ Some job
    → job.compare ≡ false
one_check true one job is e = absurd (none_is_no_job job e)
one_check false one job is e = sym (ap (λ (o : Option JobText). (job_or one o).compare) e) ∙ is

checks_of : (o : Option JobText) → OnlyChecks (option_and_then only_check o)
checks_of None job e = absurd (none_is_no_job job e)
checks_of (Some one) job e = one_check one.compare one job refl e

-- it compares nothing
pub only_checks : (words : List (List ℕ)) → OnlyChecks (check_job_of words)
only_checks words = checks_of (job_of words)
