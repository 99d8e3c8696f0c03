-- A merge passes on the change at its next path: what it has still to give begins with this change.
use Rattle.std.specs.Prelude.{◌≡◌, ◌≢◌, ◌<◌, ℕ, List, [], ◌∷◌, ◌++◌}
use Rattle.std.proofs.Common.{ap, ◌∙◌}
use Rattle.aide_db.specs.DeskView.{DeskView}
use Rattle.aide_db.specs.Desk.{desk_entry}
use Rattle.aide_db.specs.declared.side.Side.TheVariants.{Old, New}
use Rattle.aide_merge.specs.Said.{PathChange}
use Rattle.aide_merge.specs.Standing.{rest_of, left_of}
use Rattle.aide_merge.specs.code.Merging.{IsEnded, IsNotDue, IsReady, remaining, total_work}
use Rattle.aide_merge.specs.code.NextPath.{old_after, new_after}
use Rattle.aide_merge.specs.code.Upcoming.{upcoming}
use Rattle.aide_merge.specs.declared.merge.Merge.{Merge}
use Rattle.aide_merge.specs.declared.merge.NextEntry.TheVariants.{Ended}
use Rattle.aide_merge.proofs.Steps.{end_gives, ended_at, merged_step, new_kept, old_kept, step_falls}

module _ {R : Type 0} (m : Merge R) (d : DeskView) (ready : IsReady m d) (not_due : IsNotDue m) where
  -- the merge after the change at its next path, of which there is at most one
  abbrev pub after_next : Merge R
  after_next = record m {
    old_next = old_after (upcoming m d) m.old_next;
    new_next = new_after (upcoming m d) m.new_next;
  }

  pub still_ready : IsReady after_next d
  still_ready = record {
    old_side = ready.old_side;
    new_side = ready.new_side;
    old_unfailed = ready.old_unfailed;
    new_unfailed = ready.new_unfailed;
    old_here = λ is. ready.old_here (old_kept (upcoming m d) m.old_next _ (λ e. cc) is);
    new_here = λ is. ready.new_here (new_kept (upcoming m d) m.new_next _ (λ e. cc) is);
    old_ended = λ is. ready.old_ended (old_kept (upcoming m d) m.old_next _ (λ e. cc) is);
    new_ended = λ is. ready.new_ended (new_kept (upcoming m d) m.new_next _ (λ e. cc) is);
  }

  pub next_falls : upcoming m d ≢ [] → total_work after_next < total_work m
  next_falls = step_falls m.old_next m.new_next (desk_entry Old d) (desk_entry New d) (left_of m.old_cursor) (left_of m.new_cursor)
      not_due.old_not_due not_due.new_not_due

  pub next_gives : (old new : List ℕ) → remaining m d old new ≡ upcoming m d ++ remaining after_next d old new
  next_gives old new =
      merged_step m.old_next m.new_next (desk_entry Old d) (desk_entry New d) (rest_of m.old_cursor old) (rest_of m.new_cursor new)
      not_due.old_not_due not_due.new_not_due ready.old_here ready.new_here

  both_ended : upcoming m d ≡ [] → (m.old_next ≡ Ended) × (m.new_next ≡ Ended)
  both_ended =
      ended_at m.old_next m.new_next (desk_entry Old d) (desk_entry New d) not_due.old_not_due not_due.new_not_due
      ready.old_here ready.new_here

  -- if there is none, both databases have been read to their ends
  pub next_ended : upcoming m d ≡ [] → IsEnded m
  next_ended none =
      let both = both_ended none in
      record { old_ended = ready.old_ended both.0; new_ended = ready.new_ended both.1 }

  -- and nothing is still to come
  pub upcoming_none : upcoming m d ≡ [] → (old new : List ℕ) → remaining m d old new ≡ []
  upcoming_none none old new =
      end_gives m.old_next m.new_next (desk_entry Old d) (desk_entry New d) (rest_of m.old_cursor old) (rest_of m.new_cursor new)
      (both_ended none)

  -- if there is one, it is the first that is still to come
  pub next_given : (change : PathChange) → upcoming m d ≡ change ∷ [] → (old new : List ℕ)
      → remaining m d old new ≡ change ∷ remaining after_next d old new
  next_given change one old new = next_gives old new ∙ ap (λ l. l ++ remaining after_next d old new) one

  pub upcoming_one : (change : PathChange) → upcoming m d ≡ change ∷ [] → (old new : List ℕ)
      → (more : List PathChange) × (remaining m d old new ≡ change ∷ more)
  upcoming_one change one old new = (remaining after_next d old new, next_given change one old new)
