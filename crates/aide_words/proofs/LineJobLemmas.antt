-- The command of a comparison is one whose matches and faults `clap` states, and the job of the words is that of the
-- options.
use Rattle.std.proofs.Common.{◌≡◌, ◌∙◌, Bool, List, [], None, Some, Ok, Err, ap, if◌then◌else◌, refl, sym, true}
use Rattle.std.specs.Prelude.{◌≢◌, IfOk, Result}
use Rattle.clap.specs.Walk.{Row, Text, is_empty}
use Rattle.clap.specs.Simple.{App, is_simple, matches_of}
use Rattle.clap.specs.Kinds.{Kinds}
use Rattle.clap.specs.Faults.{fault_of, is_simple_and_free}
use Rattle.clap.proofs.OnLiterals.{clap_on_literals}
use Rattle.aide_words.specs.LineJob.{line_command, line_job_of, line_job_text, paired, text_of_line_job}
use Rattle.aide_words.proofs.JobLemmas.{not_empty}
use Rattle.aide_words.specs.declared.line_job.LineJob.{LineJob}
use Rattle.aide_words.specs.declared.job.WordsFault.{WordsFault}

pub line_command_is_free : is_simple_and_free line_command ≡ true
unfolding line_command clap_on_literals
line_command_is_free = refl

pub line_command_is_simple : is_simple line_command ≡ true
unfolding line_command clap_on_literals
line_command_is_simple = refl

-- where the parse succeeds, the job is that of the options
pub job_of_options : (v words : List Text) (rows : List Row) → v ≡ words
    → (fault_of line_command v ≡ []) × (rows ≡ matches_of line_command v)
    → line_job_of words ≡ paired (line_job_text rows)
job_of_options v words rows same is =
    sym (ap line_job_of same)
    ∙ ap (λ (k : Kinds). if is_empty k then paired (line_job_text (matches_of line_command v)) else None) is.0
    ∙ sym (ap (λ (r : List Row). paired (line_job_text r)) is.1)

-- where the parse fails, there is no job
pub no_line_job : (app : App) (v words : List Text) → v ≡ words → app ≡ line_command → fault_of app v ≢ []
    → line_job_of words ≡ None
no_line_job app v words same is faulty =
    sym (ap line_job_of same)
    ∙ ap (λ (b : Bool). if b then paired (line_job_text (matches_of line_command v)) else None)
    (not_empty (fault_of line_command v) (λ e. faulty (ap (λ (a : App). fault_of a v) is ∙ e)))

-- the job that was made is that of the words
pub job_that_was_made : (v words : List Text) (rows : List Row) → v ≡ words
    → (fault_of line_command v ≡ []) × (rows ≡ matches_of line_command v)
    → (result : Result LineJob WordsFault) → IfOk result (λ job. paired (line_job_text rows) ≡ Some (text_of_line_job job))
    → IfOk result (λ job. line_job_of words ≡ Some (text_of_line_job job))
job_that_was_made v words rows same is (Ok job) made = job_of_options v words rows same is ∙ made
job_that_was_made v words rows same is (Err fault) made = tt
