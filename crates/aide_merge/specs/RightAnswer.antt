-- The right answer of a run, by what is at both sides. A side may be missing.
use Rattle.std.specs.Prelude.{◌≡◌, ℕ, ◌⊎◌, Option, Some, Result, Ok, Err, List, ⊤, Bool, true, None}
use Rattle.std.specs.Prelude.{IsSome}
use Rattle.aide_db.specs.Database.{IsSound, IsFirstFault}
use Rattle.aide_db.specs.declared.fault.DbFault.{DbFault}
use Rattle.aide_entry.specs.declared.fault_kind.DbFaultKind.{DbFaultKind}
use Rattle.aide_entry.specs.declared.fault_kind.DbFaultKind.TheVariants.{Memory, Read}
use Rattle.aide_db.specs.declared.limits.Limits.{Limits}
use Rattle.aide_db.specs.declared.side.Side.{Side}
use Rattle.aide_db.specs.declared.side.Side.TheVariants.{Old, New}
use Rattle.aide_merge.specs.declared.outcome.Outcome.{Outcome}
use Rattle.aide_merge.specs.declared.run_fault.RunFault.{RunFault}
use Rattle.aide_merge.specs.declared.run_fault.RunFault.TheVariants.{Open, Database, Changed, Write}
use Rattle.aide_db.specs.Side.{by_side}

-- the report or the lines that a run writes, and the outcome that it returns
pub record Report : Type 0 where
  pub text : List ℕ
  pub outcome : Outcome

-- the fault is of this side, and its line and kind are those of the first fault of the text
abbrev pub IsFirstFaultOf : Limits → Side → List ℕ → DbFault → Type 0
IsFirstFaultOf limits side text fault = (fault.side ≡ side)
    × IsFirstFault limits text fault.line fault.kind

-- The right answer over two texts: what is made of them if both are sound, and otherwise the first fault.
-- A fault of the old text comes before one of the new text.
abbrev pub RunsBy : {X : Type 0} → Limits → (List ℕ → List ℕ → X) → List ℕ → List ℕ
    → Result X DbFault → Type 0
RunsBy limits over old new (Ok made) = IsSound limits old × IsSound limits new
    × (made ≡ over old new)
RunsBy limits over old new (Err fault) = IsFirstFaultOf limits Old old fault
    ⊎ (IsSound limits old × IsFirstFaultOf limits New new fault)

-- why a database fault comes: the sources failed, memory ran out, or the fault is the answer
abbrev pub Causes : DbFaultKind → Type 0 → Type 0 → Type 0
Causes Read rose first = rose
Causes Memory rose first = ⊤
Causes _ rose first = first

-- why a fault of a run comes
abbrev pub HasCause : RunFault → Type 0 → Type 0 → (DbFault → Type 0) → (Side → Type 0) → Type 0
HasCause (Open side) sources sink first untold = sources
HasCause (Database fault) sources sink first untold = Causes fault.kind sources (first fault)
HasCause (Changed side) sources sink first untold = untold side
HasCause (Write written) sources sink first untold = sink

-- the sources show what is at a side: its text, or that the side is missing
abbrev pub TellsSide : (bytes : Option (List ℕ)) → (is_missing : Bool) → Option (List ℕ) → Type 0
TellsSide bytes is_missing (Some text) = bytes ≡ Some text
TellsSide bytes is_missing None = is_missing ≡ true

-- the answer over two texts, as a run returns it
abbrev pub run_answer : {X : Type 0} → Result X DbFault → Result X RunFault
run_answer (Ok made) = Ok made
run_answer (Err fault) = Err (Database fault)

-- The right answer, by what is at both sides:
-- If the old side is missing, the answer is that the old side cannot be opened.
-- If only the new side is missing and the old text is sound, the answer is that the new side cannot be opened.
-- If only the new side is missing and the old text is not sound, the answer is the first fault of the old text.
-- If both sides are there, the answer is the right answer over both texts.
abbrev pub RunsOverBy : {X : Type 0} → Limits → (List ℕ → List ℕ → X) → Option (List ℕ)
    → Option (List ℕ) → Result X RunFault → Type 0
RunsOverBy limits over None new r = r ≡ Err (Open Old)
RunsOverBy limits over (Some old) None r = (IsSound limits old × (r ≡ Err (Open New)))
    ⊎ ((fault : DbFault) × IsFirstFaultOf limits Old old fault × (r ≡ Err (Database fault)))
RunsOverBy {X = X} limits over (Some old) (Some new) r = (run : Result X DbFault)
    × RunsBy limits over old new run × (r ≡ run_answer run)

-- A fault that keeps a run from its answer: the sources have failed at a side that is there,
-- memory ran out for a line of such a side, or the sink has failed.
abbrev pub IsHindered : Option (List ℕ) → Option (List ℕ) → (sources sink : Type 0) → RunFault
    → Type 0
IsHindered old new sources sink (Open side) = IsSome (by_side old new side) × sources
IsHindered old new sources sink (Database fault) =
    IsSome (by_side old new fault.side) × Causes fault.kind sources ⊥
IsHindered old new sources sink (Changed side) = ⊥
IsHindered old new sources sink (Write written) = sink

-- a run stops with the fault that is the answer, or with a fault that keeps the run from its answer
abbrev pub StopsFor : {X : Type 0} → Result X RunFault → (RunFault → Type 0) → RunFault → Type 0
StopsFor (Ok made) hindered fault = hindered fault
StopsFor (Err right) hindered fault = (fault ≡ right) ⊎ hindered fault

-- a fault of a run over reliable sources: they fail only at the opening of a side that has no bytes to give
abbrev pub IsOfReliable : (Side → Option (List ℕ)) → RunFault → Type 0
IsOfReliable bytes_of (Open side) = bytes_of side ≡ None
IsOfReliable bytes_of (Database fault) = fault.kind ≡ Read → ⊥
IsOfReliable bytes_of (Changed side) = ⊤
IsOfReliable bytes_of (Write written) = ⊤
