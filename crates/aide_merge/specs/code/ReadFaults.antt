-- What a fault of a run means, whatever the run is to write.
use Rattle.std.specs.Prelude.{◌≡◌, ◌≤◌, ℕ, ◌⊎◌, true, Option, Some, None, List}
use Rattle.aide_db.specs.Database.{IsSound}
use Rattle.aide_db.specs.declared.limits.Limits.{Limits}
use Rattle.aide_db.specs.declared.side.Side.{Side}
use Rattle.aide_db.specs.declared.side.Side.TheVariants.{Old, New}
use Rattle.aide_text.specs.Failures.{Rose}
use Rattle.aide_merge.specs.Openings.{IsNotGiven, IsRefusedThere}
use Rattle.aide_merge.specs.RightAnswer.{IsFirstFaultOf, IsHindered, IsOfReliable, TellsSide}
use Rattle.aide_merge.specs.Room.{IsNotOfMemory}
use Rattle.aide_merge.specs.RunFaults.{IsCaused, IsFirst, IsRight}
use Rattle.aide_merge.specs.Seen.{Seen}
use Rattle.aide_merge.specs.declared.run_fault.RunFault.{RunFault}
use Rattle.aide_merge.specs.declared.run_fault.RunFault.TheVariants.{Open, Database}

-- What a fault of the first reading of a side means.
pub record IsReadingFault (limits : Limits) (a b : Seen) (side : Side) (room : ℕ)
    (fault : RunFault) : Type 0 where
  -- it is of this side, and a fault of its text is the first one
  pub first : IsFirst limits a.bytes_of side fault
  -- an opening that was refused is not known to have succeeded
  pub not_given : IsNotGiven b.was_given fault
  -- a device of the sources has failed, unless the fault is of the text or of memory
  pub caused : IsCaused (Rose a.failures b.failures) ⊥ fault
  -- a missing side cannot be opened
  pub missing : a.is_missing side ≡ true → fault ≡ Open side
  -- reliable sources fail only at a side that has no bytes
  pub reliable : a.is_reliable ≡ true → IsOfReliable a.bytes_of fault
  -- no allocation fails if the longest allowed line fits into the reserved room
  pub memory : limits.line ≤ room → IsNotOfMemory fault

-- the fault of what is at a side: the side is missing, or its text has this first fault
abbrev pub IsFaultAt : Limits → Side → Option (List ℕ) → RunFault → Type 0
IsFaultAt limits side None fault = fault ≡ Open side
IsFaultAt limits side (Some text) (Database fault) = IsFirstFaultOf limits side text fault
IsFaultAt limits side (Some text) _ = ⊥

-- The fault is the right answer, by what is at both sides. One of the old side comes before one of the new side.
abbrev pub IsRightFault : Limits → Option (List ℕ) → Option (List ℕ) → RunFault → Type 0
IsRightFault limits None new fault = IsFaultAt limits Old None fault
IsRightFault limits (Some old) new fault = IsFaultAt limits Old (Some old) fault
    ⊎ (IsSound limits old × IsFaultAt limits New new fault)

-- What a fault of a run means. `sink` says what a failed write means.
pub record IsReadFault (limits : Limits) (a b : Seen) (room : ℕ) (sink : Type 0)
    (fault : RunFault) : Type 0 where
  -- a side that keeps giving its bytes is never called changed, and a fault of its text is the first one
  pub right : IsRight limits a.bytes_of fault
  -- if it is known what is at both sides, the fault is the right answer, or it keeps the run from its answer
  pub over : (old new : Option (List ℕ)) → TellsSide (a.bytes_of Old) (a.is_missing Old) old
      → TellsSide (a.bytes_of New) (a.is_missing New) new
      → IsRightFault limits old new fault
      ⊎ IsHindered old new (Rose a.failures b.failures) sink fault
  -- a side that could not be opened is the one that was opened last
  pub refused : IsRefusedThere a.openings b.openings fault
  -- that opening is not known to have succeeded
  pub not_given : IsNotGiven b.was_given fault
  -- a device of the sources has failed, or the sink has, unless the fault is of a text or of memory
  pub caused : IsCaused (Rose a.failures b.failures) sink fault
  -- reliable sources fail only at a side that has no bytes
  pub reliable : a.is_reliable ≡ true → IsOfReliable a.bytes_of fault
  -- no allocation fails if the longest allowed line fits into the reserved room
  pub memory : limits.line ≤ room → IsNotOfMemory fault
