-- The digests of what the openings of both sides gave in a call.
use Rattle.std.specs.Prelude.{◌≡◌, ℕ, List, Option}
use Rattle.sha2.specs.Sha256.{sha256}
use Rattle.aide_db.specs.declared.side.Side.{Side}
use Rattle.aide_report_specs.specs.Given.{IsGiven}
use Rattle.aide_merge.specs.code.Digests.{digest_on}
use Rattle.aide_merge.specs.declared.digests.Digests.{Digests}

-- the bytes that the next opening of a side gives
abbrev pub next_given : (Side → ℕ → Option (List ℕ)) → (Side → ℕ) → Side → Option (List ℕ)
next_given bytes_at openings side = bytes_at side (openings side)

-- What each opening of a side gave in a call has the digest of that side.
pub record GaveDigests (bytes_at : Side → ℕ → Option (List ℕ)) (before after : Side → ℕ)
    (digests : Digests) : Type 0 where
  pub each : (side : Side) (number : ℕ) (text : List ℕ)
      → IsGiven (bytes_at side) (before side) (after side) number text
      → digest_on digests side ≡ sha256 text
