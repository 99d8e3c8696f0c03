-- What a reader learns from the last line: that no line is missing, and what was read.
use Rattle.std.specs.Io.KnownBytes.{Appends}
use Rattle.std.specs.Prelude.{◌≡◌, ℕ, true, List, [], ◌∷◌, ◌++◌, Option, Some, None, codes}
use Rattle.std.specs.Prelude.{option_and_then, ⊤}
use Rattle.std.specs.List.{AllByRecursion}
use Rattle.json.specs.Json.{Json, Members, boolean, member, no_members, object}
use Rattle.sha2.specs.Sha256.{sha256}
use Rattle.aide_db.specs.declared.limits.Limits.{Limits}
use Rattle.aide_merge.specs.declared.run_fault.RunFault.TheVariants.{Write}
use Rattle.aide_line_run.specs.RunEnds.{AreAllSound}
use Rattle.aide_line_run.specs.declared.pair_fault.PairFault.{PairFault}
use Rattle.aide_line_run.specs.declared.pair_fault.PairFault.TheVariants.{Compared}
use Rattle.aide_line_laws.specs.Field.{Field}
use Rattle.aide_line_laws.specs.JsonLine.{IsJsonLine}
use Rattle.aide_line_laws.specs.Reading.{bytes_of, value_under}

-- the line is a last one: it has true under "end"
abbrev pub IsLast : List Field → Type 0
IsLast fields = value_under (codes "end") fields ≡ Some (boolean true)

-- lines are complete if the last of them is a last line
abbrev pub AreComplete : List (List Field) → Type 0
AreComplete [] = ⊥
AreComplete (fields ∷ []) = IsLast fields
AreComplete (fields ∷ next ∷ all) = AreComplete (next ∷ all)

-- any fault but a failed write of the lines of four sound texts
abbrev pub LeavesUnfinished : Limits → (old new trusted_old trusted_new : List ℕ) → PairFault
    → Type 0
LeavesUnfinished limits old new trusted_old trusted_new (Compared (Write written)) =
    AreAllSound limits old new trusted_old trusted_new → ⊥
LeavesUnfinished limits old new trusted_old trusted_new _ = ⊤

-- the members, in this order
abbrev pub fields_in : Members → List Field
fields_in no_members = []
fields_in (member name value members) = (name, value) ∷ fields_in members

-- the members of an object
abbrev pub object_fields : Json → Option (List Field)
object_fields (object members) = Some (fields_in members)
object_fields json = None

-- the SHA-256 that an object has
abbrev pub digest_in : Json → Option (List ℕ)
digest_in json =
    option_and_then (λ fields. option_and_then bytes_of (value_under (codes "sha256") fields))
    (object_fields json)

-- the SHA-256 of the database under a name
abbrev pub digest_under : List ℕ → List Field → Option (List ℕ)
digest_under name fields = option_and_then digest_in (value_under name fields)

-- What has been written ends with a last line, in which a reader finds the SHA-256 of each of these texts under its
-- name.
pub record EndsWithDigests (texts : List (List ℕ × List ℕ))
    (before after : Option (List ℕ)) : Type 0 where
  pub begun : List ℕ
  pub last : List ℕ
  pub fields : List Field
  pub bytes : Appends before after (begun ++ last)
  pub is_line : IsJsonLine last fields
  pub is_last : IsLast fields
  pub digests : AllByRecursion (λ named. digest_under named.0 fields ≡ Some (sha256 named.1)) texts
