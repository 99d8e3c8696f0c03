-- What calls leave of the desk.
use Rattle.std.specs.Prelude.{ℕ, ◌≡◌, Option, List}
use Rattle.aide_db.specs.DeskView.{DeskView}
use Rattle.aide_db.specs.declared.limits.Limits.{Limits}
use Rattle.aide_db.specs.declared.side.Side.{Side}
use Rattle.aide_db.specs.declared.side.Side.TheVariants.{Old, New}
use Rattle.aide_merge.specs.Bound.{Fits, OpensWithin}
use Rattle.aide_db.specs.Kept.{IsKept}
use Rattle.aide_db.specs.Side.{other_side}

-- What a pass leaves of the desk.
pub record KeepsDesk (limits : Limits) (bytes_of : Side → Option (List ℕ))
    (d e : DeskView) : Type 0 where
  -- the reserved room stays
  pub room : e.room ≡ d.room
  -- a desk that fits the longest line of each text still fits them after the pass
  pub fits : (old_line new_line before : ℕ)
      → OpensWithin bytes_of limits Old old_line → OpensWithin bytes_of limits New new_line
      → Fits old_line new_line before d → Fits old_line new_line before e

-- What the beginning of a side leaves of the desk.
pub record ClearsSide (side : Side) (d e : DeskView) : Type 0 where
  -- what is kept in memory of the other side stays
  pub other : IsKept (other_side side) d e
  -- the reserved room stays
  pub room : e.room ≡ d.room
  -- a desk that fits any two lines still fits them
  pub fits : (old_line new_line before : ℕ) → Fits old_line new_line before d
      → Fits old_line new_line before e

-- A desk that was cleared first, whatever an earlier run left on it.
pub record ClearsDesk (limits : Limits) (bytes_of : Side → Option (List ℕ))
    (d e : DeskView) : Type 0 where
  -- the reserved room stays
  pub room : e.room ≡ d.room
  -- the desk fits the longest line of each text
  pub fits : (old_line new_line : ℕ)
      → OpensWithin bytes_of limits Old old_line → OpensWithin bytes_of limits New new_line
      → Fits old_line new_line d.peak e
