-- What the contract of `run` says of two texts, drawn from its clause `over`, and of two openings of a side, drawn from `agreed`.
-- Each law has the clause as a premise.
use Rattle.std.specs.Prelude.{◌≡◌, ◌≤◌, ℕ, List, Option, Some, Result, Ok, Err, OnOk, IsErr, false}
use Rattle.std.proofs.Common.{inl, inr, refl, arith}
use Rattle.aide_entry.specs.Cause.{is_outside}
use Rattle.aide_db.specs.declared.fault.DbFault.{DbFault}
use Rattle.aide_db.specs.declared.limits.Limits.{Limits}
use Rattle.aide_db.specs.declared.side.Side.{Side}
use Rattle.aide_merge.specs.Asked.{Asked}
use Rattle.aide_report_specs.specs.Given.{GiveOneDigest, IsGiven}
use Rattle.aide_report_specs.specs.Missing.{RunsOver, EndsOver}
use Rattle.aide_merge.specs.RightAnswer.{IsHindered}
use Rattle.aide_merge.specs.RunFaults.{CountsWrites}
use Rattle.aide_merge.specs.RightAnswer.{Report}
use Rattle.aide_report_specs.specs.Runs.{Runs, HasAnswer, EndsWell, EndsEarly, report_over}
use Rattle.aide_merge.specs.declared.outcome.Outcome.{Outcome}
use Rattle.aide_merge.specs.declared.run_fault.RunFault.{RunFault}
use Rattle.aide_merge.specs.declared.run_fault.RunFault.TheVariants.{Database, Write}
use Rattle.aide_merge.proofs.RightAnswers.{RunsBy-exists}
use Rattle.aide_merge.proofs.ReadFaultLemmas.{inside_is_no_hindrance}
use Rattle.sha2.specs.Sha256.{sha256}

-- the run over two texts ends as the clause `over` says
abbrev pub EndsOverTexts : Limits → Asked → (old new : List ℕ) → (sources sink : Type 0) → Result Outcome RunFault
    → (before after : Option (List ℕ)) → Type 0
EndsOverTexts limits wish old new sources sink result before after =
    (r : Result Report RunFault) → RunsOver limits wish (Some old) (Some new) r
    → EndsOver r (IsHindered (Some old) (Some new) sources sink) result before after

-- Two texts have a right answer.
pub two_texts_have_an_answer : (limits : Limits) (wish : Asked) (old new : List ℕ) → 14 ≤ limits.line
    → HasAnswer limits wish old new
two_texts_have_an_answer limits wish = RunsBy-exists limits (report_over wish)

-- After `Ok` exactly the report of the right answer has gone out, and its outcome is returned.
pub texts_end_well : (limits : Limits) (wish : Asked) (old new : List ℕ) (sources sink : Type 0) (outcome : Outcome)
    (before after : Option (List ℕ)) → EndsOverTexts limits wish old new sources sink (Ok outcome) before after
    → (r : Result Report DbFault) → Runs limits wish old new r → EndsWell r outcome before after
texts_end_well limits wish old new sources sink outcome before after over (Ok report) runs =
    over (Ok report) (Ok report, runs, refl)
texts_end_well limits wish old new sources sink outcome before after over (Err fault) runs =
    over (Err (Database fault)) (Err fault, runs, refl)

-- After a fault the beginning of this report has gone out, and nothing if the answer is a fault of a text.
pub texts_end_early : (limits : Limits) (wish : Asked) (old new : List ℕ) (sources sink : Type 0) (fault : RunFault)
    (before after : Option (List ℕ)) → EndsOverTexts limits wish old new sources sink (Err fault) before after
    → (r : Result Report DbFault) → Runs limits wish old new r → EndsEarly r before after
texts_end_early limits wish old new sources sink fault before after over (Ok report) runs =
    (over (Ok report) (Ok report, runs, refl)).1
texts_end_early limits wish old new sources sink fault before after over (Err right) runs =
    (over (Err (Database right)) (Err right, runs, refl)).1

-- A fault of a database other than a failed read or out of memory is the right answer.
pub a_fault_of_a_text_is_the_answer : (limits : Limits) (wish : Asked) (old new : List ℕ) (sources sink : Type 0)
    (fault : DbFault) (before after : Option (List ℕ))
    → EndsOverTexts limits wish old new sources sink (Err (Database fault)) before after
    → is_outside fault.kind ≡ false
    → (r : Result Report DbFault) → Runs limits wish old new r → r ≡ Err fault
a_fault_of_a_text_is_the_answer limits wish old new sources sink fault before after over inside (Ok report) runs =
    absurd (inside_is_no_hindrance fault.kind sources inside (over (Ok report) (Ok report, runs, refl)).0.1)
a_fault_of_a_text_is_the_answer limits wish old new sources sink fault before after over inside (Err right) runs =
    elim (over (Err (Database right)) (Err right, runs, refl)).0 [
      | inl same ↦ cc same
      | inr hinders ↦ absurd (inside_is_no_hindrance fault.kind sources inside hinders.1)
    ]

-- What a sink has counted does not fall in a run.
pub a_sink_never_falls : {T : Type 0} (before after : ℕ) (result : Result T RunFault) → CountsWrites before after result
    → before ≤ after
a_sink_never_falls before after (Ok answer) same = omega (arith, same)
a_sink_never_falls before after (Err (Write written)) counts = omega (arith, counts)
a_sink_never_falls before after _ same = omega (arith, same)

-- Over two openings of a side whose texts differ in their SHA-256 no run ends with `Ok`: by its clause `agreed`.
pub other_openings_end_in_a_fault : {T : Type 0} (bytes_at : Side → ℕ → Option (List ℕ)) (before after : Side → ℕ)
    (result : Result T RunFault) → OnOk result (GiveOneDigest bytes_at before after)
    → (side : Side) (number other : ℕ) (text more : List ℕ) → IsGiven (bytes_at side) (before side) (after side) number text
    → IsGiven (bytes_at side) (before side) (after side) other more → (sha256 text ≡ sha256 more → ⊥)
    → IsErr result
other_openings_end_in_a_fault bytes_at before after (Ok answer) agreed side number other text more is also differ =
    absurd (differ (agreed side number other text more is also))
other_openings_end_in_a_fault bytes_at before after (Err fault) agreed side number other text more is also differ = refl
