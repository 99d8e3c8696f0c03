-- What a run over two databases returns.
use Rattle.std.specs.Prelude.{◌≡◌, ℕ, ◌+◌, Option, Result, Ok, Err, List, []}
use Rattle.std.specs.Io.KnownBytes.{Appends}
use Rattle.aide_merge.specs.Asked.{Asked}
use Rattle.sha2.specs.Sha256.{sha256}
use Rattle.aide_db.specs.Map.{database_of}
use Rattle.aide_db.specs.declared.fault.DbFault.{DbFault}
use Rattle.aide_db.specs.declared.limits.Limits.{Limits}
use Rattle.aide_report_specs.specs.Report.{Origin, report_of, section_count}
use Rattle.aide_merge.specs.Outcomes.{counts_of, outcome_over}
use Rattle.aide_text.specs.Sent.{SendsPart}
use Rattle.aide_merge.specs.declared.outcome.Outcome.{Outcome}
use Rattle.aide_merge.specs.RightAnswer.{Report, RunsBy}

-- what a report shows of a database itself: its path, and the SHA-256 of its text
abbrev pub origin_of : List ℕ → List ℕ → Origin
origin_of path text = record { path = path; digest = sha256 text }

-- the report over two sound texts, and its outcome
unfoldable pub report_over : Asked → List ℕ → List ℕ → Report
report_over asked old new = record {
  text = report_of asked.options (origin_of asked.old_path old) (origin_of asked.new_path new)
      (database_of old) (database_of new);
  outcome = outcome_over asked.options old new;
}

-- how many sections of entries that report contains
unfoldable pub sections_over : Asked → List ℕ → List ℕ → ℕ
sections_over asked old new =
    section_count asked.options (counts_of asked.options (database_of old) (database_of new))

-- how often each database is opened for it: once to be read to its end, once to count, and once for each section
abbrev pub openings_over : Asked → List ℕ → List ℕ → ℕ
openings_over asked old new = 2 + sections_over asked old new

-- the right answer over two texts if the report is to be written
abbrev pub Runs : Limits → Asked → List ℕ → List ℕ → Result Report DbFault → Type 0
Runs limits asked old new r = RunsBy limits (report_over asked) old new r

-- there is a right answer
abbrev pub HasAnswer : Limits → Asked → List ℕ → List ℕ → Type 0
HasAnswer limits asked old new = (r : Result Report DbFault) × Runs limits asked old new r

-- all of an answer's report has been written, and its outcome is returned
abbrev pub EndsWell : Result Report DbFault → Outcome → Option (List ℕ) → Option (List ℕ) → Type 0
EndsWell (Ok report) outcome old new = (report.outcome ≡ outcome) × Appends old new report.text
EndsWell (Err fault) outcome old new = ⊥

-- the beginning of an answer's report has been written, and nothing if the answer is a fault
abbrev pub EndsEarly : Result Report DbFault → Option (List ℕ) → Option (List ℕ) → Type 0
EndsEarly (Ok report) old new = SendsPart report.text old new
EndsEarly (Err fault) old new = Appends old new []
