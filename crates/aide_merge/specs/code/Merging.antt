-- A merge of two cursors: what it represents, and what it has still to give.
use Rattle.std.specs.Prelude.{◌≡◌, ◌≢◌, ◌≤◌, ℕ, ◌+◌, Option, List, IsSome}
use Rattle.aide_fields.specs.Attributes.{Attributes}
use Rattle.aide_db.specs.CursorView.{CursorView}
use Rattle.aide_db.specs.Desk.{desk_entry}
use Rattle.aide_db.specs.DeskView.{DeskView}
use Rattle.aide_fields.specs.Path.{path_cmp}
use Rattle.aide_db.specs.declared.limits.Limits.{Limits}
use Rattle.aide_db.specs.declared.side.Side.{Side}
use Rattle.aide_db.specs.declared.side.Side.TheVariants.{Old, New}
use Rattle.aide_merge.specs.Compare.{Change}
use Rattle.aide_merge.specs.code.NextEntry.{ahead, work}
use Rattle.aide_merge.specs.Merged.{merged}
use Rattle.aide_db.specs.Answer.{Stands}
use Rattle.aide_merge.specs.Seen.{AreLimits}
use Rattle.aide_merge.specs.Standing.{rest_of, left_of, IsUnfailed}
use Rattle.aide_db.specs.declared.stage.Stage.TheVariants.{Ended as AtEnd}
use Rattle.aide_merge.specs.declared.merge.NextEntry.TheVariants.{Due, Here, Ended}
use Rattle.aide_merge.specs.declared.merge.Merge.{Merge}
use Rattle.aide_db.specs.Map.{entries_of}
use Rattle.aide_merge.specs.Said.{PathChange}

-- the changes that a merge has still to give, if the databases have these texts
abbrev pub remaining : {R : Type 0} → Merge R → DeskView → List ℕ → List ℕ
    → List (Change (List ℕ) Attributes)
remaining m desk old new =
    merged path_cmp (ahead m.old_next (desk_entry Old desk) (rest_of m.old_cursor old))
    (ahead m.new_next (desk_entry New desk) (rest_of m.new_cursor new))

-- the cursors are of their sides and have not failed, and an entry that is here is on the desk
pub record IsReady {R : Type 0} (m : Merge R) (desk : DeskView) : Type 0 where
  pub old_side : m.old_cursor.side ≡ Old
  pub new_side : m.new_cursor.side ≡ New
  pub old_unfailed : IsUnfailed m.old_cursor.stage
  pub new_unfailed : IsUnfailed m.new_cursor.stage
  pub old_here : m.old_next ≡ Here → IsSome (desk_entry Old desk)
  pub new_here : m.new_next ≡ Here → IsSome (desk_entry New desk)
  pub old_ended : m.old_next ≡ Ended → m.old_cursor.stage ≡ AtEnd
  pub new_ended : m.new_next ≡ Ended → m.new_cursor.stage ≡ AtEnd

-- no side has to be read before the next path is passed on
pub record IsNotDue {R : Type 0} (m : Merge R) : Type 0 where
  pub old_not_due : m.old_next ≢ Due
  pub new_not_due : m.new_next ≢ Due

-- both databases have been read to their ends
pub record IsEnded {R : Type 0} (m : Merge R) : Type 0 where
  pub old_ended : m.old_cursor.stage ≡ AtEnd
  pub new_ended : m.new_cursor.stage ≡ AtEnd

-- the cursor of a side
abbrev pub cursor_at : {R : Type 0} → Merge R → Side → CursorView R
cursor_at m Old = m.old_cursor
cursor_at m New = m.new_cursor

-- the limits of a side
abbrev pub limits_at : {R : Type 0} → Merge R → Side → Limits
limits_at m side = (cursor_at m side).limits

-- the cursor of a side represents a database of this text
abbrev pub StandsAt : {R : Type 0} → (R → Option (List ℕ)) → Merge R → DeskView → Side → List ℕ
    → Type 0
StandsAt to_come m desk side text = Stands to_come (cursor_at m side) desk text

-- Neither cursor has used more bytes than its limits allow, and it could be started with these limits.
pub record IsWithinLimits {R : Type 0} (m : Merge R) : Type 0 where
  pub old_used : m.old_cursor.used ≤ m.old_cursor.limits.bytes
  pub new_used : m.new_cursor.used ≤ m.new_cursor.limits.bytes
  pub old_limits : AreLimits m.old_cursor.limits
  pub new_limits : AreLimits m.new_cursor.limits

-- how often the reels of both sides have failed
abbrev pub reels_failed : {R : Type 0} → (R → ℕ) → Merge R → ℕ
reels_failed failures m = failures m.old_cursor.reel + failures m.new_cursor.reel

-- a bound on the changes that a merge can still pass on
abbrev pub total_work : {R : Type 0} → Merge R → ℕ
total_work m = work m.old_next (left_of m.old_cursor) + work m.new_next (left_of m.new_cursor)

-- the changes that a pass over two texts meets
abbrev pub pass_of : List ℕ → List ℕ → List PathChange
pass_of old new = merged path_cmp (entries_of old) (entries_of new)
