-- A pair of databases between two moments.
use Rattle.std.specs.Prelude.{◌≡◌, ℕ, List, Option, Some}
use Rattle.aide_db.specs.DeskView.{DeskView}
use Rattle.aide_db.specs.declared.side.Side.TheVariants.{Old, New}
use Rattle.aide_merge.specs.Asked.{Asked}
use Rattle.aide_merge.specs.RightAnswer.{TellsSide}
use Rattle.aide_merge.specs.Seen.{Seen}

-- What was asked of a pair, and what was seen of its sources and of its desk at both moments.
pub record PairSeen : Type 0 where
  pub asked : Asked
  pub before : Seen
  pub after : Seen
  pub desk_before : DeskView
  pub desk_after : DeskView

-- the same, from its parts
abbrev pub pair_seen : Asked → (before after : Seen) → (desk_before desk_after : DeskView)
    → PairSeen
pair_seen asked before after desk_before desk_after = record {
  asked = asked;
  before = before;
  after = after;
  desk_before = desk_before;
  desk_after = desk_after;
}

-- what is at both sides is known: a text, or that the side is missing
abbrev pub Told : PairSeen → (old new : Option (List ℕ)) → Type 0
Told p old new = TellsSide (p.before.bytes_of Old) (p.before.is_missing Old) old
    × TellsSide (p.before.bytes_of New) (p.before.is_missing New) new

-- both sides give these texts
abbrev pub Gives : PairSeen → (old new : List ℕ) → Type 0
Gives p old new = (p.before.bytes_of Old ≡ Some old) × (p.before.bytes_of New ≡ Some new)
