-- What a run returns, by what is at both sides. A side may be missing.
use Rattle.std.specs.Prelude.{◌≡◌, ℕ, Option, Result, Ok, Err, List, []}
use Rattle.std.specs.Io.KnownBytes.{Appends}
use Rattle.aide_db.specs.declared.limits.Limits.{Limits}
use Rattle.aide_merge.specs.Asked.{Asked}
use Rattle.aide_merge.specs.RightAnswer.{Report, RunsOverBy, StopsFor}
use Rattle.aide_report_specs.specs.Runs.{report_over}
use Rattle.aide_merge.specs.declared.outcome.Outcome.{Outcome}
use Rattle.aide_merge.specs.declared.run_fault.RunFault.{RunFault}
use Rattle.aide_text.specs.Sent.{SendsPart}

-- the right answer, by what is at both sides, if the report is to be written
abbrev pub RunsOver : Limits → Asked → Option (List ℕ) → Option (List ℕ) → Result Report RunFault
    → Type 0
RunsOver limits asked old new r = RunsOverBy limits (report_over asked) old new r

-- there is a right answer
abbrev pub HasAnswerOver : Limits → Asked → Option (List ℕ) → Option (List ℕ) → Type 0
HasAnswerOver limits asked old new = (r : Result Report RunFault) × RunsOver limits asked old new r

-- the beginning of the answer's report has been written, and nothing if the answer is a fault
abbrev pub SendsFront : Result Report RunFault → Option (List ℕ) → Option (List ℕ) → Type 0
SendsFront (Ok report) before after = SendsPart report.text before after
SendsFront (Err right) before after = Appends before after []

-- all of the answer's report has been written, and its outcome is returned
abbrev pub SendsWhole : Result Report RunFault → Outcome → Option (List ℕ) → Option (List ℕ)
    → Type 0
SendsWhole (Ok report) outcome before after = (report.outcome ≡ outcome)
    × Appends before after report.text
SendsWhole (Err right) outcome before after = ⊥

-- a run ends with this answer, unless a fault keeps the run from it
abbrev pub EndsOver : Result Report RunFault → (RunFault → Type 0) → Result Outcome RunFault
    → Option (List ℕ) → Option (List ℕ) → Type 0
EndsOver r hindered (Ok outcome) before after = SendsWhole r outcome before after
EndsOver r hindered (Err fault) before after = StopsFor r hindered fault × SendsFront r before after
