-- Where a cursor begins to read.
use Rattle.std.specs.Prelude.{◌≡◌, [], false}
use Rattle.aide_db.specs.CursorView.{CursorView}
use Rattle.aide_db.specs.Desk.{columns_of_side, list_of}
use Rattle.aide_db.specs.DeskView.{DeskView}
use Rattle.aide_db.specs.Side.{other_side}
use Rattle.aide_db.specs.declared.limits.Limits.{Limits}
use Rattle.aide_db.specs.declared.side.Side.{Side}
use Rattle.aide_db.specs.declared.stage.Stage.TheVariants.{Start}

-- A cursor of this reel, side and limits that has used nothing and knows no columns.
pub record IsAtStart {R : Type 0} (given : R) (its_side : Side) (its_limits : Limits)
    (c : CursorView R) : Type 0 where
  pub reel : c.reel ≡ given
  pub ahead : c.ahead ≡ []
  pub side : c.side ≡ its_side
  pub limits : c.limits ≡ its_limits
  pub stage : c.stage ≡ Start
  pub used : c.used ≡ 0
  pub number : c.line ≡ 0
  pub at_end : c.at_end ≡ false
  pub unknown : c.columns ≡ []

-- The list of this side is empty, and nothing else of the desk has changed.
pub record EmptiesList (side : Side) (a b : DeskView) : Type 0 where
  pub emptied : list_of side b ≡ []
  pub other : list_of (other_side side) b ≡ list_of (other_side side) a
  pub columns : (any : Side) → columns_of_side any b ≡ columns_of_side any a
  pub line : b.line ≡ a.line
  pub peak : b.peak ≡ a.peak
  pub room : b.room ≡ a.room
