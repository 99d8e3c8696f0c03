-- How a comparison of two databases ends.
use Rattle.std.specs.Prelude.{ℕ, ◌≡◌, Option, List, [], Result, Ok, Err}
use Rattle.std.specs.Io.KnownBytes.{Appends}
use Rattle.aide_db.specs.declared.fault.DbFault.{DbFault}
use Rattle.aide_merge.specs.RightAnswer.{Report}
use Rattle.aide_merge.specs.declared.outcome.Outcome.{Outcome}
use Rattle.aide_merge.specs.declared.run_fault.RunFault.{RunFault}
use Rattle.aide_merge.specs.declared.run_fault.RunFault.TheVariants.{Database}

-- The run ends with this answer. If it is a report, exactly the report has been written, and its
-- outcome is returned. If it is a fault of a database, this fault is returned, and nothing has
-- been written.
abbrev pub EndsAs : Result Report DbFault → Result Outcome RunFault
    → (before after : Option (List ℕ)) → Type 0
EndsAs (Ok report) (Ok outcome) before after = (outcome ≡ report.outcome)
    × Appends before after report.text
EndsAs (Ok report) (Err fault) before after = ⊥
EndsAs (Err right) (Ok outcome) before after = ⊥
EndsAs (Err right) (Err fault) before after = (fault ≡ Database right) × Appends before after []
