-- What the calls of a run over both databases promise that reads each of them once.
use Rattle.std.specs.Prelude.{◌≡◌, ◌<◌, ◌≤◌, ℕ, true, List, Some, Result, IfErr, OnOk}
use Rattle.aide_db.specs.Database.{IsSound}
use Rattle.aide_db.specs.DeskView.{DeskView}
use Rattle.aide_db.specs.declared.fault.DbFault.{DbFault}
use Rattle.aide_db.specs.declared.limits.Limits.{Limits}
use Rattle.aide_db.specs.declared.reel.Reel.{Ghosts as Reels}
use Rattle.aide_db.specs.declared.side.Side.{Side}
use Rattle.aide_db.specs.declared.side.Side.TheVariants.{Old, New}
use Rattle.aide_entry.specs.declared.fault_kind.DbFaultKind.TheVariants.{Read}
use Rattle.aide_line_text.specs.Frame.{ReadFacts}
use Rattle.aide_merge.specs.Openings.{OpensAtMost, OpensExactly}
use Rattle.aide_merge.specs.Room.{IsNotMemory}
use Rattle.aide_merge.specs.Seen.{KeepsSources, Seen}
use Rattle.aide_merge.specs.Standing.{IsFaultOf}
use Rattle.aide_merge.specs.code.Merging.{StandsAt, limits_at, reels_failed}
use Rattle.aide_merge.specs.code.Desks.{KeepsDesk}
use Rattle.aide_merge.specs.code.ReadFaults.{IsReadFault}
use Rattle.aide_merge.specs.declared.readings.Readings.{Readings}
use Rattle.aide_merge.specs.declared.merge.Merge.{Merge}
use Rattle.aide_merge.specs.declared.run_fault.RunFault.{RunFault}
use Rattle.aide_merge.specs.declared.run_fault.RunFault.TheVariants.{Changed}
use Rattle.aide_text.specs.Failures.{Rose}

-- The first fault of both sides.
pub record IsFirstOfBoth {R : Type 0} (r : Reels R) (m n : Merge R) (d : DeskView)
    (fault : DbFault) : Type 0 where
  -- it is the first one of its text
  pub first : (text : List ℕ) → StandsAt r.to_come m d fault.side text
      → IsFaultOf (limits_at m fault.side) text fault
  -- before one of the new text the old one is sound
  pub behind : fault.side ≡ New → (text : List ℕ) → StandsAt r.to_come m d Old text
      → IsSound (limits_at m Old) text
  -- at a failed read a reel has failed
  pub read : fault.kind ≡ Read → 0 < reels_failed r.failures n
  -- no allocation fails if the longest allowed line fits into the reserved room
  pub memory : ((side : Side) → (limits_at m side).line ≤ d.room) → IsNotMemory fault

-- What a fault means of sides that are read once.
pub record IsOneReadingFault (limits : Limits) (a b : Seen) (room : ℕ) (sink : Type 0)
    (fault : RunFault) : Type 0 where
  -- it is a fault of a run
  pub read : IsReadFault limits a b room sink fault
  -- no side is called changed
  pub unchanged : (side : Side) → fault ≡ Changed side → ⊥

-- Both sides were opened at most once, and read.
pub record Reads {T : Type 0} (limits : Limits) (a b : Seen) (d e : DeskView)
    (sink : Type 0) (result : Result T RunFault) : Type 0 where
  -- the sources are as they were, but for openings and failures
  pub sources : KeepsSources a b
  -- the desk still fits the lines of both texts
  pub desk : KeepsDesk limits a.bytes_of d e
  -- each side was opened once, and after a fault not more often
  pub opens : OnOk result (OpensExactly a.openings b.openings 1)
  pub opens_some : OpensAtMost a.openings b.openings 1
  -- what a fault means
  pub fault : IfErr result (IsOneReadingFault limits a b d.room sink)

-- What was read of only the old side, whose reel was open.
pub record IsOldFault (limits : Limits) (a b : Seen) (room : ℕ) (fault : DbFault) : Type 0 where
  pub of_side : fault.side ≡ Old
  pub first : (text : List ℕ) → a.bytes_of Old ≡ Some text → IsFaultOf limits text fault
  pub caused : fault.kind ≡ Read → Rose a.failures b.failures
  pub reliable : a.is_reliable ≡ true → fault.kind ≡ Read → ⊥
  pub memory : limits.line ≤ room → IsNotMemory fault

-- what the last line says of the old database of a reading
abbrev pub old_read : Readings → ReadFacts
old_read readings = record { digest = readings.digests.of_old; skipped = readings.skipped_old }

-- what it says of the new one
abbrev pub new_read : Readings → ReadFacts
new_read readings = record { digest = readings.digests.of_new; skipped = readings.skipped_new }
