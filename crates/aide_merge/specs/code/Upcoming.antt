-- The next path of a merge: what is there, and what passing it on does.
use Rattle.std.specs.Prelude.{ℕ, ◌≡◌, ◌<◌, ◌∷◌, [], Option, Some, None, List}
use Rattle.aide_db.specs.Desk.{desk_entry}
use Rattle.aide_db.specs.DeskView.{DeskView}
use Rattle.aide_db.specs.declared.side.Side.TheVariants.{Old, New}
use Rattle.aide_merge.specs.Said.{PathChange}
use Rattle.aide_merge.specs.code.ChangeView.{change_of}
use Rattle.aide_merge.specs.code.Merging.{IsReady, IsWithinLimits, remaining, total_work}
use Rattle.aide_merge.specs.code.NextEntry.{next_entry}
use Rattle.aide_merge.specs.code.NextPath.{next_change}
use Rattle.aide_agreement.specs.declared.change.Change.{Change}
use Rattle.aide_merge.specs.declared.merge.Merge.{Merge}

-- the change at the next path of a merge that has read the entries that were due, or none at the end
abbrev pub upcoming : {R : Type 0} → Merge R → DeskView → List PathChange
upcoming m d =
    next_change (next_entry m.old_next (desk_entry Old d))
    (next_entry m.new_next (desk_entry New d))

-- what the code shows of the next path is the change there
abbrev pub ShowsNext : Option Change → List PathChange → Type 0
ShowsNext None changes = changes ≡ []
ShowsNext (Some change) changes = changes ≡ change_of change ∷ []

-- A merge has passed on the change at its next path.
pub record IsPassedOn {R : Type 0} (m n : Merge R) (d : DeskView)
    (change : PathChange) : Type 0 where
  -- the merge can be asked again
  pub ready : IsReady n d
  pub within : IsWithinLimits m → IsWithinLimits n
  -- it comes nearer to its end
  pub falls : total_work n < total_work m
  -- what was still to come is the change, and then what still comes
  pub gives : (old new : List ℕ) → remaining m d old new ≡ change ∷ remaining n d old new
