-- A merge that has stopped, and the fault that comes first.
use Rattle.std.specs.Prelude.{◌≡◌, ◌<◌, ℕ, ◌⊎◌, List}
use Rattle.aide_db.specs.Database.{IsSound}
use Rattle.aide_db.specs.DeskView.{DeskView}
use Rattle.aide_db.specs.declared.fault.DbFault.{DbFault}
use Rattle.aide_db.specs.declared.reel.Reel.{Ghosts as Reels}
use Rattle.aide_db.specs.declared.side.Side.TheVariants.{Old, New}
use Rattle.aide_entry.specs.declared.fault_kind.DbFaultKind.TheVariants.{Read}
use Rattle.aide_merge.specs.Bound.{FitsAfterBoth}
use Rattle.aide_merge.specs.Standing.{IsUnfailed}
use Rattle.aide_merge.specs.code.MergeCalls.{IsCursorFault}
use Rattle.aide_merge.specs.code.Merging.{StandsAt, cursor_at, limits_at, reels_failed}
use Rattle.aide_merge.specs.declared.merge.Merge.{Merge}

-- A merge at a fault. If the new side is at fault, the old one can still be read.
pub record IsStopped {R : Type 0} (r : Reels R) (n : Merge R) (fault : DbFault) : Type 0 where
  pub old_side : n.old_cursor.side ≡ Old
  pub unfailed : fault.side ≡ New → IsUnfailed n.old_cursor.stage
  -- at a failed read the reel of its side has failed
  pub read : fault.kind ≡ Read → 0 < r.failures (cursor_at n fault.side).reel

-- The fault stays the first one: it is the old side's, or the old text is sound.
pub record StaysFirst {R : Type 0} (r : Reels R) (m n : Merge R) (d : DeskView)
    (fault first : DbFault) : Type 0 where
  pub same : first ≡ fault
  pub sound : fault.side ≡ New → (text : List ℕ) → StandsAt r.to_come m d Old text
      → IsSound (limits_at m Old) text
  pub read : fault.kind ≡ Read → 0 < reels_failed r.failures n

-- The old side was read to its end if the new one was at fault.
pub record IsSettled {R : Type 0} (r : Reels R) (m n : Merge R) (d e : DeskView)
    (fault first : DbFault) : Type 0 where
  pub room : e.room ≡ d.room
  pub fits : FitsAfterBoth r.to_come m d e
  pub answer : StaysFirst r m n d fault first ⊎ IsCursorFault r m.old_cursor n.old_cursor d first
