-- What the openings of a side gave in a call.
use Rattle.std.specs.Prelude.{◌≡◌, ◌≤◌, ◌<◌, ℕ, List, Option, Some}
use Rattle.sha2.specs.Sha256.{sha256}
use Rattle.aide_db.specs.declared.side.Side.{Side}

-- The opening with this number was one of the call, and gave this text. `before` and `after` are how often the side was
-- opened before and after the call.
pub record IsGiven (bytes_at : ℕ → Option (List ℕ)) (before after number : ℕ)
    (text : List ℕ) : Type 0 where
  pub since : before ≤ number
  pub until : number < after
  pub gives : bytes_at number ≡ Some text

-- any two openings of a side in the call gave bytes of one SHA-256
abbrev pub GiveOneDigest : (Side → ℕ → Option (List ℕ)) → (before after : Side → ℕ) → Type 0
GiveOneDigest bytes_at before after = (side : Side) (number other : ℕ) (text more : List ℕ)
    → IsGiven (bytes_at side) (before side) (after side) number text
    → IsGiven (bytes_at side) (before side) (after side) other more
    → sha256 text ≡ sha256 more
