-- What calls of a cursor and of a merge keep, one after the other.
use Rattle.std.specs.Prelude.{ℕ, ◌≡◌, List, Result}
use Rattle.std.proofs.Common.{refl, sym, subst, arith, ◌∙◌, rules}
use Rattle.aide_db.specs.Answer.{Stands}
use Rattle.aide_db.specs.CursorView.{CursorView}
use Rattle.aide_db.specs.DeskView.{DeskView}
use Rattle.aide_db.specs.Kept.{IsKept}
use Rattle.aide_db.specs.NextCall.{IsNextOf, IsOutcomeOfNext, KeepsDesk}
use Rattle.aide_db.specs.NextCall as called
use Rattle.aide_db.specs.declared.fault.DbFault.{DbFault}
use Rattle.aide_db.specs.declared.reel.Reel.{Ghosts as Reels}
use Rattle.aide_db.specs.declared.side.Side.{Side}
use Rattle.aide_db.specs.declared.side.Side.TheVariants.{Old, New}
use Rattle.aide_db.specs.declared.step.Step.{Step}
use Rattle.aide_merge.specs.code.MergeCalls.{IsAdvanced, KeepsCursor, IsCursorFault, KeepsMerge, IsMergeFault}
use Rattle.aide_merge.specs.code.Merging.{IsWithinLimits, StandsAt, limits_at}
use Rattle.aide_merge.specs.Standing.{IsFaultOf}
use Rattle.aide_merge.specs.declared.merge.NextEntry.{NextEntry}
use Rattle.aide_merge.specs.declared.merge.Merge.{Merge}
use Rattle.aide_merge.proofs.BoundLemmas.{fits_both, fits_further, fits_next, fits_on}
use Rattle.aide_merge.proofs.RoomLemmas.{still_fits}
use Rattle.aide_merge.proofs.SideLemmas.{of_sides}
use Rattle.aide_merge.proofs.StandingLemmas.{stands_across, stands_at}

-- ---- one cursor

-- no call
pub cursor_none : {R : Type 0} (r : Reels R) (c : CursorView R) (d : DeskView) → KeepsCursor r c c d d
cursor_none r c d = search rules

-- the next entry, the end or a fault
pub cursor_next : {R : Type 0} {r : Reels R} {c n : CursorView R} {d e : DeskView} {result : Result Step DbFault}
    → ((text : List ℕ) → Stands r.to_come c d text → IsNextOf r c n d e result text) → IsOutcomeOfNext r c n d e result
    → called.KeepsCursor r c n → KeepsDesk c.side c.limits.line d e → KeepsCursor r c n d e
cursor_next {r = r} {c = c} {n = n} {d = d} {e = e} {result = result} is outcome cursor desk = search (rules, stands_at, fits_next)

-- one call more
pub cursor_then : {R : Type 0} {r : Reels R} {c n k : CursorView R} {d e f : DeskView} → KeepsCursor r c n d e
    → KeepsCursor r n k e f → KeepsCursor r c k d f
cursor_then {r = r} {c = c} {n = n} {d = d} {e = e} {f = f} p q = search (rules, fits_on)

-- the side has another name
pub advanced_at : {R : Type 0} {r : Reels R} {side other : Side} {c n : CursorView R} {d e : DeskView} {before after : NextEntry} → side
    ≡ other
    → IsAdvanced r side c n d e before after → IsAdvanced r other c n d e before after
advanced_at {r = r} {c = c} {n = n} {d = d} {e = e} {before = before} {after = after} is p = subst
    (λ (s : Side). IsAdvanced r s c n d e before after) is p

-- ---- a merge

-- no call
pub merge_none : {R : Type 0} (r : Reels R) (m : Merge R) (d : DeskView) → KeepsMerge r m m d d
merge_none r m d = search rules

-- one call more
pub merge_then : {R : Type 0} {r : Reels R} {m n k : Merge R} {d e f : DeskView} → KeepsMerge r m n d e
    → KeepsMerge r n k e f → KeepsMerge r m k d f
merge_then {r = r} {m = m} {n = n} {d = d} {e = e} {f = f} p q = record {
  limits = λ side. q.limits side ∙ p.limits side;
  stands = λ side text s. q.stands side text (p.stands side text s);
  room = q.room ∙ p.room;
  fits = fits_further r.to_come m n d e f p.limits p.stands p.fits q.fits;
}

-- a fault of a call after others
pub merge_fault : {R : Type 0} {r : Reels R} {m n k : Merge R} {d e : DeskView} {fault : DbFault} → KeepsMerge r m n d e
    → IsMergeFault r n k e fault → IsMergeFault r m k d fault
merge_fault {m = m} {n = n} {d = d} {e = e} {fault = fault} p is = search (rules, still_fits)

-- ---- a call of the old side's cursor, and then one of the new side's

limits_both : {R : Type 0} (m n : Merge R) → n.old_cursor.limits ≡ m.old_cursor.limits → n.new_cursor.limits ≡ m.new_cursor.limits
    → (side : Side) → limits_at n side ≡ limits_at m side
limits_both m n old new Old = old
limits_both m n old new New = new

pub both_keep : {R : Type 0} (r : Reels R) (m n : Merge R) (d middle e : DeskView) → m.old_cursor.side ≡ Old → m.new_cursor.side ≡ New
    → IsKept New d middle → IsKept Old middle e → KeepsCursor r m.old_cursor n.old_cursor d middle
    → KeepsCursor r m.new_cursor n.new_cursor middle e → KeepsMerge r m n d e
both_keep r m n d middle e is_old is_new kept_new kept_old old new = search (rules, limits_both, of_sides, stands_across, fits_both)

-- both cursors are as before
pub passed_on : {R : Type 0} (r : Reels R) (m : Merge R) (d : DeskView) (old_next new_next : NextEntry)
    → KeepsMerge r m (record m { old_next = old_next; new_next = new_next }) d d
passed_on r m d old_next new_next = assumption

pub still_within : {R : Type 0} (m : Merge R) (old_next new_next : NextEntry) → IsWithinLimits m
    → IsWithinLimits (record m { old_next = old_next; new_next = new_next })
still_within m old_next new_next w = record {
  old_used = w.old_used;
  new_used = w.new_used;
  old_limits = w.old_limits;
  new_limits = w.new_limits;
}

-- a fault of the old side's cursor
pub old_fault : {R : Type 0} (r : Reels R) (m n : Merge R) (d : DeskView) (fault : DbFault) → m.old_cursor.side ≡ Old
    → IsCursorFault r m.old_cursor n.old_cursor d fault → IsMergeFault r m n d fault
old_fault r m n d fault is_old is =
    let at : fault.side ≡ Old = is.of_side ∙ is_old in
    record {
      first = λ text s. subst (λ (side : Side). IsFaultOf (limits_at m side) text fault) (sym at)
          (is.first text (subst (λ (side : Side). StandsAt r.to_come m d side text) at s));
      read = λ read. omega (arith, is.read read);
      memory = λ le. is.memory (le Old);
    }

-- a fault of the new side's
pub new_fault : {R : Type 0} (r : Reels R) (m n : Merge R) (d middle : DeskView) (fault : DbFault) → m.new_cursor.side ≡ New
    → IsKept New d middle → middle.room ≡ d.room
    → IsCursorFault r m.new_cursor n.new_cursor middle fault → IsMergeFault r m n d fault
new_fault r m n d middle fault is_new kept room is =
    let at : fault.side ≡ New = is.of_side ∙ is_new in
    record {
      first = λ text s. subst (λ (side : Side). IsFaultOf (limits_at m side) text fault) (sym at)
          (is.first text (stands_across r.to_come m.new_cursor New d middle text is_new kept
          (subst (λ (side : Side). StandsAt r.to_come m d side text) at s)));
      read = λ read. omega (arith, is.read read);
      memory = λ le. is.memory (still_fits m.new_cursor.limits m.new_cursor.limits d.room middle.room refl room (le New));
    }
