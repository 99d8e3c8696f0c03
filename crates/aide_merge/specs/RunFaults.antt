-- What the faults of a run mean.
use Rattle.std.specs.Prelude.{◌≡◌, ◌<◌, ◌≤◌, ◌+◌, ◌-◌, ◌^◌, ℕ, Option, Some, List, [], true, ⊤}
use Rattle.std.specs.Prelude.{false, Result, Ok, Err}
use Rattle.std.specs.Io.KnownBytes.{Appends}
use Rattle.aide_entry.specs.Count.{one_more}
use Rattle.aide_db.specs.Database.{IsSound}
use Rattle.aide_entry.specs.Cause.{is_outside}
use Rattle.aide_entry.specs.declared.fault_kind.DbFaultKind.TheVariants.{Read}
use Rattle.aide_db.specs.declared.limits.Limits.{Limits}
use Rattle.aide_db.specs.declared.side.Side.{Side}
use Rattle.aide_merge.specs.Standing.{IsFaultOf}
use Rattle.aide_text.specs.Sent.{IsCounted}
use Rattle.aide_text.specs.declared.pen.Pen.{Pen}
use Rattle.aide_merge.specs.declared.run_fault.RunFault.{RunFault}
use Rattle.aide_merge.specs.declared.run_fault.RunFault.TheVariants.{Open, Database, Changed}
use Rattle.aide_merge.specs.declared.run_fault.RunFault.TheVariants.{Write}

-- if a write failed, the fault names the number of bytes that were written
abbrev pub HasWrittenIfAny : Option (List ℕ) → Option (List ℕ) → RunFault → Type 0
HasWrittenIfAny old new (Write written) = IsCounted old new 0 written
HasWrittenIfAny old new _ = ⊤

-- If no write failed and the old side was opened at most this often, nothing has been written yet.
-- This is stated only of runs in which the count of openings stays below its last value.
abbrev pub HasSentNothing : (before_it opened_old opened_new : ℕ) → Option (List ℕ)
    → Option (List ℕ) → RunFault → Type 0
HasSentNothing before_it opened_old opened_new old new (Write written) = ⊤
HasSentNothing before_it opened_old opened_new old new _ = opened_new < 2 ^ 64 - 1
    → opened_new ≤ opened_old + before_it → Appends old new []

-- If a side could not be opened or read, the sources have failed. If a write failed, the sink has failed.
abbrev pub IsCaused : Type 0 → Type 0 → RunFault → Type 0
IsCaused sources sink (Open side) = sources
IsCaused sources sink (Database fault) = fault.kind ≡ Read → sources
IsCaused sources sink (Changed side) = ⊤
IsCaused sources sink (Write written) = sink

-- A side that shows its text is never called changed, and a fault of its text is the first one.
abbrev pub IsRight : Limits → (Side → Option (List ℕ)) → RunFault → Type 0
IsRight limits bytes_of (Open side) = ⊤
IsRight limits bytes_of (Database fault) = (text : List ℕ) → bytes_of fault.side ≡ Some text
    → IsFaultOf limits text fault
IsRight limits bytes_of (Changed side) = (text : List ℕ) → bytes_of side ≡ Some text → ⊥
IsRight limits bytes_of (Write written) = ⊤

-- A fault of a later pass. A fault of a database is then of memory or of a device.
-- A side that is called changed is not sound, or shows no text.
abbrev pub IsLater : Limits → (Side → Option (List ℕ)) → RunFault → Type 0
IsLater limits bytes_of (Open side) = ⊤
IsLater limits bytes_of (Database fault) = is_outside fault.kind ≡ true
IsLater limits bytes_of (Changed side) = (text : List ℕ) → bytes_of side ≡ Some text
    → IsSound limits text → ⊥
IsLater limits bytes_of (Write written) = ⊤

-- if a write failed, the fault names the number of bytes that the pen sent; otherwise no write has failed
abbrev pub HasPenWritten : Pen → RunFault → Type 0
HasPenWritten pen (Write written) = (pen.failed ≡ true) × (written ≡ pen.sent)
HasPenWritten pen _ = pen.failed ≡ false

-- the sink has failed once if the fault is a failed write, and not at all if it is another fault
abbrev pub CountsWriteFault : ℕ → ℕ → RunFault → Type 0
CountsWriteFault before after (Write written) = after ≡ one_more before
CountsWriteFault before after _ = after ≡ before

-- the same after a fault; after `Ok` the sink has not failed at all
abbrev pub CountsWrites : {T : Type 0} → ℕ → ℕ → Result T RunFault → Type 0
CountsWrites before after (Ok answer) = after ≡ before
CountsWrites before after (Err fault) = CountsWriteFault before after fault

-- a fault of the first reading of this side
abbrev pub IsFirst : Limits → (Side → Option (List ℕ)) → Side → RunFault → Type 0
IsFirst limits bytes_of side (Open opened) = opened ≡ side
IsFirst limits bytes_of side (Database fault) = (fault.side ≡ side)
    × ((text : List ℕ) → bytes_of side ≡ Some text → IsFaultOf limits text fault)
IsFirst limits bytes_of side _ = ⊥
