-- The state of a desk after a judgement.
use Rattle.std.specs.Prelude.{◌≡◌, List, []}
use Rattle.aide_db.specs.DeskView.{DeskView}
use Rattle.aide_db.specs.Side.{other_side}
use Rattle.aide_db.specs.Desk.{list_of, columns_of_side}
use Rattle.aide_entry.specs.declared.column.Column.{Column}
use Rattle.aide_db.specs.declared.side.Side.{Side}
use Rattle.aide_db.specs.declared.judge.Judgement.{Judgement}
use Rattle.aide_db.specs.declared.judge.Judgement.TheVariants.{Entry}

-- the line that was read has become the side's entry
pub record HasAccepted (side : Side) (columns : List Column) (old new : DeskView) : Type 0 where
  pub list : list_of side new ≡ old.line
  pub columns_are : columns_of_side side new ≡ columns
  pub other_list : list_of (other_side side) new ≡ list_of (other_side side) old
  pub other_columns : columns_of_side (other_side side) new ≡ columns_of_side (other_side side) old
  pub line : new.line ≡ []
  pub peak : new.peak ≡ old.peak
  pub room : new.room ≡ old.room

-- the state of a desk after a judgement: only an entry changes the desk
abbrev pub IsAccepted : Side → List Column → DeskView → DeskView → Judgement → Type 0
IsAccepted side columns old now Entry = HasAccepted side columns old now
IsAccepted side columns old now _ = now ≡ old
