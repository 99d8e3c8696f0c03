-- From what the matches hold to the job of the words.
use Rattle.std.proofs.Common.{◌≡◌, ◌∙◌, ◌∷◌, List, [], ap, refl, sym, rules, Bool, true, false, Option, Some, None, codes}
use Rattle.std.proofs.Common.{Ok, Err}
use Rattle.std.proofs.Math.Path.{subst}
use Rattle.std.specs.Prelude.{◌≢◌, if◌then◌else◌, IfOk, Result, option_and_then}
use Rattle.clap.specs.Kinds.{Kinds}
use Rattle.clap.specs.Walk.{Row, Text, first_of, is_empty}
use Rattle.clap.specs.Simple.{App, is_simple, matches_of}
use Rattle.clap.specs.Faults.{fault_of, is_simple_and_free}
use Rattle.clap.proofs.OnLiterals.{clap_on_literals}
use Rattle.aide_words.specs.Job.{JobText, aide_command, exactly_one, flag_of, job_for, job_of, job_of_rows, text_of, text_of_job}
use Rattle.aide_words.specs.declared.job.Job.{Job}
use Rattle.aide_words.specs.declared.job.WordsFault.{WordsFault}

pub aide_is_free : is_simple_and_free aide_command ≡ true
unfolding aide_command clap_on_literals
aide_is_free = refl

pub aide_is_simple : is_simple aide_command ≡ true
unfolding aide_command clap_on_literals
aide_is_simple = refl

-- what was matched against a command was matched against one that is the same
pub matched_by : (a b : App) (v : List Text) (rows : List Row) → a ≡ b → (fault_of a v ≡ []) × (rows ≡ matches_of a v)
    → (fault_of b v ≡ []) × (rows ≡ matches_of b v)
matched_by a b v rows is matched = subst (λ (x : App). (fault_of x v ≡ []) × (rows ≡ matches_of x v)) is matched

-- where the parse succeeds, the job is that of the rows
pub job-rows : (v words : List Text) (rows : List Row) → v ≡ words
    → (fault_of aide_command v ≡ []) × (rows ≡ matches_of aide_command v) → job_of words ≡ job_of_rows rows
job-rows v words rows same is = cc

-- faults that are not `[]` are not none
pub not_empty : (k : Kinds) → k ≢ [] → is_empty k ≡ false
not_empty [] p = absurd (p refl)
not_empty (x ∷ k) p = search rules

-- where the parse fails, there is no job
pub no-job : (app : App) (v words : List Text) → v ≡ words → app ≡ aide_command → fault_of app v ≢ []
    → job_of words ≡ None
no-job app v words same is faulty =
    sym (ap job_of same)
    ∙ ap (λ (b : Bool). if b then job_of_rows (matches_of aide_command v) else None)
    (not_empty (fault_of aide_command v) (λ e. faulty (ap (λ (a : App). fault_of a v) is ∙ e)))

-- the job of the rows is that of the words, if there is one
pub job-of-rows : (v words : List Text) (rows : List Row) → v ≡ words
    → (fault_of aide_command v ≡ []) × (rows ≡ matches_of aide_command v)
    → (result : Result Job WordsFault) → IfOk result (λ job. job_of_rows rows ≡ Some (text_of_job job))
    → IfOk result (λ job. job_of words ≡ Some (text_of_job job))
job-of-rows v words rows same is (Ok job) made = job-rows v words rows same is ∙ made
job-of-rows v words rows same is (Err fault) made = tt

abbrev pub Option-of-JobText : JobText → Option JobText
Option-of-JobText j = Some j

pub job-none : (rows : List Row) → first_of (codes "config") rows ≡ None → job_of_rows rows ≡ None
job-none rows e = ap (option_and_then (job_for rows)) e

pub job-some : (rows : List Row) (t : Text)
    → exactly_one (flag_of (codes "compare") rows) (flag_of (codes "config-check") rows) ≡ true
    → first_of (codes "config") rows ≡ Some t
    → job_of_rows rows ≡ Some (record {
      compare = flag_of (codes "compare") rows;
      config = t;
      before = text_of (codes "before") rows;
      after = text_of (codes "after") rows;
    })
job-some rows t e is = cc

pub job-made : (rows : List Row) (compare : Bool) (config before after t : Text)
    → compare ≡ flag_of (codes "compare") rows → config ≡ t
    → before ≡ text_of (codes "before") rows → after ≡ text_of (codes "after") rows
    → Option-of-JobText (record {
      compare = flag_of (codes "compare") rows;
      config = t;
      before = text_of (codes "before") rows;
      after = text_of (codes "after") rows;
    }) ≡ Option-of-JobText (record { compare = compare; config = config; before = before; after = after })
job-made rows compare config before after t e1 e2 e3 e4 = rw (e1, e2, e3, e4) refl
