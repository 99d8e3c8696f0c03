-- The digests of both databases at their first readings.
use Rattle.std.specs.Prelude.{ℕ, ◌≡◌, Option, Some, List}
use Rattle.sha2.specs.Sha256.{sha256}
use Rattle.aide_db.specs.Side.{by_side}
use Rattle.aide_db.specs.declared.side.Side.{Side}
use Rattle.aide_merge.specs.declared.digests.Digests.{Digests}

-- the digest of a side
abbrev pub digest_on : Digests → Side → List ℕ
digest_on digests side = by_side digests.of_old digests.of_new side

-- if a side shows its text, its digest is the digest of that text
abbrev pub AreDigests : (Side → Option (List ℕ)) → Digests → Type 0
AreDigests bytes_of digests = (side : Side) (text : List ℕ) → bytes_of side ≡ Some text
    → digest_on digests side ≡ sha256 text
