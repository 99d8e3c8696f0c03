-- What the calls of sources change.
use Rattle.std.specs.Prelude.{ℕ, ◌≡◌, Bool, true, false, Option, None, List}
use Rattle.aide_entry.specs.Count.{one_more}
use Rattle.aide_db.specs.Side.{other_side}
use Rattle.aide_db.specs.declared.side.Side.{Side}

-- The sources show the same of their sides and files as before.
pub record TellsTheSame {S : Type 0} (bytes_of : S → Side → Option (List ℕ))
    (bytes_at : S → Side → ℕ → Option (List ℕ))
    (file_at : S → List ℕ → Option (Option (List ℕ))) (is_missing : S → Side → Bool)
    (is_reliable : S → Bool) (a b : S) : Type 0 where
  -- each side gives the same bytes
  pub same : bytes_of b ≡ bytes_of a
  -- each opening of a side gives the same bytes
  pub at_same : bytes_at b ≡ bytes_at a
  -- the same is known of each path
  pub files : file_at b ≡ file_at a
  -- the same sides are known to be missing
  pub missing : is_missing b ≡ is_missing a
  -- the sources are as reliable as before
  pub reliable : is_reliable b ≡ is_reliable a

-- One opening of a side was counted, and no other.
pub record CountsOpening {S : Type 0} (openings : S → Side → ℕ) (looked : S → ℕ) (side : Side)
    (a b : S) : Type 0 where
  -- one of this side
  pub counts : openings b side ≡ one_more (openings a side)
  -- none of the other side
  pub others : openings b (other_side side) ≡ openings a (other_side side)
  -- none of a file other than the two sides
  pub lookups : looked b ≡ looked a

-- What the opening of a side says if it succeeded.
pub record HasOpened {S : Type 0} (is_missing : S → Side → Bool) (failures : S → ℕ) (side : Side)
    (a b : S) : Type 0 where
  -- the side is not known to be missing
  pub refuses : is_missing a side ≡ false
  -- no failure was counted
  pub ok : failures b ≡ failures a

-- What the opening of a side says if it was refused.
pub record HasRefused {S : Type 0} (bytes_of : S → Side → Option (List ℕ)) (is_reliable : S → Bool)
    (was_given : S → Side → Bool) (failures : S → ℕ) (side : Side) (a b : S) : Type 0 where
  -- the last opening of the side is not known to have succeeded
  pub refused : was_given b side ≡ false
  -- reliable sources refuse only a side that has no bytes to give
  pub gives_none : is_reliable a ≡ true → bytes_of a side ≡ None
  -- one failure was counted
  pub fault : failures b ≡ one_more (failures a)
