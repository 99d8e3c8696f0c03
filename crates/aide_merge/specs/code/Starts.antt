-- What the reading of a side starts from.
use Rattle.std.specs.Prelude.{ℕ, ◌≡◌, Option, Some, IfSome, List}
use Rattle.aide_db.specs.Answer.{Stands}
use Rattle.aide_db.specs.CursorView.{CursorView}
use Rattle.aide_db.specs.DeskView.{DeskView}
use Rattle.aide_db.specs.Map.{entries_of}
use Rattle.aide_db.specs.declared.limits.Limits.{Limits}
use Rattle.aide_db.specs.declared.reel.Reel.{Ghosts as Reels}
use Rattle.aide_db.specs.declared.side.Side.{Side}
use Rattle.aide_db.specs.declared.side.Side.TheVariants.{Old, New}
use Rattle.aide_merge.specs.Bound.{OpensWithin, TakesWithin}
use Rattle.aide_merge.specs.Standing.{rest_of, IsUnfailed}

-- the reel gives the text of a side, if it is known
abbrev pub GivesSide : {R : Type 0} → (R → Option (List ℕ)) → (Side → Option (List ℕ)) → Side → R
    → Type 0
GivesSide to_come bytes_of side reel = IfSome (bytes_of side) (λ text. to_come reel ≡ Some text)

-- A cursor that begins to read a side.
pub record IsStarted {R : Type 0} (r : Reels R) (limits : Limits)
    (bytes_of : Side → Option (List ℕ)) (side : Side) (c : CursorView R)
    (desk : DeskView) : Type 0 where
  pub of_side : c.side ≡ side
  pub limits_of : c.limits ≡ limits
  pub unfailed : IsUnfailed c.stage
  -- it has used no bytes
  pub used : c.used ≡ 0
  -- the cursor reads the text that the side gives
  pub stands : (text : List ℕ) → bytes_of side ≡ Some text → Stands r.to_come c desk text
  -- every entry of the text is still to come
  pub rest : (text : List ℕ) → rest_of c text ≡ entries_of text
  -- it takes no longer lines than the text has
  pub within : (longest : ℕ) → OpensWithin bytes_of limits side longest
      → TakesWithin r.to_come c desk longest

-- Both reels give the texts of their sides, if these are known.
pub record GivesBoth {R : Type 0} (to_come : R → Option (List ℕ))
    (bytes_of : Side → Option (List ℕ)) (old_reel new_reel : R) : Type 0 where
  pub of_old : GivesSide to_come bytes_of Old old_reel
  pub of_new : GivesSide to_come bytes_of New new_reel
