-- What one call of a cursor or of a merge does, and what a merge leaves at its end.
use Rattle.std.specs.Prelude.{ℕ, ◌≡◌, ◌≢◌, ◌<◌, ◌≤◌, ◌++◌, ◌^◌, [], Option, Some, List, IsSome}
use Rattle.aide_db.specs.Answer.{Stands}
use Rattle.aide_db.specs.CursorView.{CursorView}
use Rattle.aide_db.specs.Desk.{desk_entry}
use Rattle.aide_db.specs.DeskView.{DeskView}
use Rattle.aide_db.specs.Map.{entries_of}
use Rattle.aide_fields.specs.Attributes.{Attributes}
use Rattle.aide_fields.specs.Path.{path_cmp}
use Rattle.aide_db.specs.declared.fault.DbFault.{DbFault}
use Rattle.aide_entry.specs.declared.fault_kind.DbFaultKind.TheVariants.{Read}
use Rattle.aide_db.specs.declared.limits.Limits.{Limits}
use Rattle.aide_db.specs.declared.reel.Reel.{Ghosts as Reels}
use Rattle.aide_db.specs.declared.side.Side.{Side}
use Rattle.aide_db.specs.declared.side.Side.TheVariants.{Old, New}
use Rattle.aide_db.specs.declared.stage.Stage.TheVariants.{Ended as AtEnd}
use Rattle.aide_merge.specs.Bound.{FitsAfter, FitsAfterBoth, OpensWithin, TakesWithin}
use Rattle.aide_merge.specs.Compare.{Change}
use Rattle.aide_merge.specs.code.ChangeView.{ShowsPath}
use Rattle.aide_merge.specs.code.NextEntry.{ahead, work}
use Rattle.aide_merge.specs.Merged.{merged}
use Rattle.aide_merge.specs.code.Merging.{IsEnded, IsNotDue, IsReady, IsWithinLimits, StandsAt}
use Rattle.aide_merge.specs.code.Merging.{limits_at}
use Rattle.aide_merge.specs.code.Merging.{reels_failed, remaining, total_work}
use Rattle.aide_merge.specs.Room.{IsNotMemory}
use Rattle.aide_merge.specs.Standing.{rest_of, left_of, IsUnfailed, IsFaultOf}
use Rattle.aide_merge.specs.declared.change.AtPath.{AtPath}
use Rattle.aide_merge.specs.declared.change.AtPath.TheVariants.{End}
use Rattle.aide_merge.specs.declared.merge.NextEntry.{NextEntry}
use Rattle.aide_merge.specs.declared.merge.NextEntry.TheVariants.{Due, Here, Ended}
use Rattle.aide_merge.specs.declared.merge.Merge.{Merge}

-- ---- one cursor

-- What a call leaves of a cursor and of the desk.
pub record KeepsCursor {R : Type 0} (r : Reels R) (c n : CursorView R)
    (d e : DeskView) : Type 0 where
  -- the cursor is of the same side
  pub side : n.side ≡ c.side
  -- it has the same limits
  pub limits : n.limits ≡ c.limits
  -- it reads the same text as before
  pub stands : (text : List ℕ) → Stands r.to_come c d text → Stands r.to_come n e text
  -- the reserved room stays
  pub room : e.room ≡ d.room
  -- a desk that fits the lines of both texts still fits them
  pub fits : FitsAfter r.to_come c d e

-- What a fault of a cursor means.
pub record IsCursorFault {R : Type 0} (r : Reels R) (c n : CursorView R) (d : DeskView)
    (fault : DbFault) : Type 0 where
  -- it is of the cursor's side
  pub of_side : fault.side ≡ c.side
  -- a fault of the text is its first one
  pub first : (text : List ℕ) → Stands r.to_come c d text → IsFaultOf c.limits text fault
  -- at a failed read the reel has failed
  pub read : fault.kind ≡ Read → 0 < r.failures n.reel
  -- no allocation fails if the longest allowed line fits into the reserved room
  pub memory : c.limits.line ≤ d.room → IsNotMemory fault

-- One side of a merge was asked for its next entry. It had come as far as `before`, and is now at `after`.
pub record IsAdvanced {R : Type 0} (r : Reels R) (side : Side) (c n : CursorView R)
    (d e : DeskView) (before after : NextEntry) : Type 0 where
  -- the cursor has reported no fault
  pub unfailed : IsUnfailed n.stage
  -- nothing is left to be read before the next path
  pub not_due : after ≢ Due
  -- an entry that is here is on the desk
  pub here : (before ≡ Here → IsSome (desk_entry side d))
      → after ≡ Here → IsSome (desk_entry side e)
  -- a side that has ended was read to its end
  pub ended : (before ≡ Ended → c.stage ≡ AtEnd) → after ≡ Ended → n.stage ≡ AtEnd
  -- the cursor has not used more bytes than its limits allow
  pub within : c.used ≤ c.limits.bytes → n.used ≤ n.limits.bytes
  -- the bound on the entries to come has not grown
  pub falls : work after (left_of n) ≤ work before (left_of c)
  -- the same entries are still ahead
  pub same_ahead : (text : List ℕ) → Stands r.to_come c d text
      → ahead after (desk_entry side e) (rest_of n text)
      ≡ ahead before (desk_entry side d) (rest_of c text)

-- ---- a merge

-- A merge of both sides that has read nothing yet.
pub record IsOpened {R : Type 0} (r : Reels R) (limits : Limits)
    (bytes_of : Side → Option (List ℕ)) (m : Merge R) (desk : DeskView) : Type 0 where
  -- its cursors are of their sides and have not failed
  pub ready : IsReady m desk
  pub limits_of : (side : Side) → limits_at m side ≡ limits
  pub within : IsWithinLimits m
  -- it has fewer changes to give than the counts can count
  pub short : total_work m < 2 ^ 62
  -- each cursor reads the text that its side gives
  pub stands : (side : Side) (text : List ℕ) → bytes_of side ≡ Some text
      → StandsAt r.to_come m desk side text
  -- every change of the two texts is still to come
  pub rest : (old new : List ℕ)
      → remaining m desk old new ≡ merged path_cmp (entries_of old) (entries_of new)
  -- no cursor takes longer lines than its text has
  pub within_old : (longest : ℕ) → OpensWithin bytes_of limits Old longest
      → TakesWithin r.to_come m.old_cursor desk longest
  pub within_new : (longest : ℕ) → OpensWithin bytes_of limits New longest
      → TakesWithin r.to_come m.new_cursor desk longest

-- What a call leaves of a merge and of the desk.
pub record KeepsMerge {R : Type 0} (r : Reels R) (m n : Merge R) (d e : DeskView) : Type 0 where
  -- both cursors have the same limits
  pub limits : (side : Side) → limits_at n side ≡ limits_at m side
  -- both read the same texts as before
  pub stands : (side : Side) (text : List ℕ) → StandsAt r.to_come m d side text
      → StandsAt r.to_come n e side text
  -- the reserved room stays
  pub room : e.room ≡ d.room
  -- a desk that fits the lines of both texts still fits them
  pub fits : FitsAfterBoth r.to_come m d e

-- A merge has read the entries that were due.
pub record HasRead {R : Type 0} (r : Reels R) (m n : Merge R) (d e : DeskView) : Type 0 where
  -- the next path can be passed on
  pub ready : IsReady n e
  pub not_due : IsNotDue n
  pub within : IsWithinLimits m → IsWithinLimits n
  -- the bound on the changes to come has not grown
  pub falls : total_work n ≤ total_work m
  -- each side has the same entries ahead
  pub old_ahead : (old : List ℕ) → StandsAt r.to_come m d Old old
      → ahead n.old_next (desk_entry Old e) (rest_of n.old_cursor old)
      ≡ ahead m.old_next (desk_entry Old d) (rest_of m.old_cursor old)
  pub new_ahead : (new : List ℕ) → StandsAt r.to_come m d New new
      → ahead n.new_next (desk_entry New e) (rest_of n.new_cursor new)
      ≡ ahead m.new_next (desk_entry New d) (rest_of m.new_cursor new)
  -- the same changes are still to come
  pub same : (old new : List ℕ) → StandsAt r.to_come m d Old old → StandsAt r.to_come m d New new
      → remaining m d old new ≡ remaining n e old new

-- A merge has passed on one path, or has come to its end.
pub record IsStep {R : Type 0} (m n : Merge R) (d : DeskView) (path : AtPath) : Type 0 where
  -- the merge can be asked again
  pub ready : IsReady n d
  pub within : IsWithinLimits m → IsWithinLimits n
  -- it comes nearer to its end
  pub falls : path ≢ End → total_work n < total_work m
  -- what was still to come is the change at the path, and then what still comes
  pub changes : List (Change (List ℕ) Attributes)
  pub shows : ShowsPath path changes
  pub gives : (old new : List ℕ) → remaining m d old new ≡ changes ++ remaining n d old new
  -- at the end nothing was left
  pub end : (old new : List ℕ) → path ≡ End → remaining m d old new ≡ []
  -- and both databases were read to their ends
  pub ended : path ≡ End → IsEnded n

-- What a fault of a merge means.
pub record IsMergeFault {R : Type 0} (r : Reels R) (m n : Merge R) (d : DeskView)
    (fault : DbFault) : Type 0 where
  -- a fault of a text is its first one
  pub first : (text : List ℕ) → StandsAt r.to_come m d fault.side text
      → IsFaultOf (limits_at m fault.side) text fault
  -- at a failed read a reel has failed
  pub read : fault.kind ≡ Read → 0 < reels_failed r.failures n
  -- no allocation fails if the longest allowed line fits into the reserved room
  pub memory : ((side : Side) → (limits_at m side).line ≤ d.room) → IsNotMemory fault
