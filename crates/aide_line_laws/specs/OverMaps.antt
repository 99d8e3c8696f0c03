-- What the lines of changes mean about four databases, path by path.
use Rattle.std.specs.Prelude.{◌≡◌, ◌⊎◌, ℕ, Bool, true, false, List, [], ◌∷◌, ◌++◌, Option, Some}
use Rattle.std.specs.Prelude.{None, ⊤, codes}
use Rattle.std.specs.FinMap.{get}
use Rattle.std.specs.Io.KnownBytes.{Appends}
use Rattle.aide_agreement.specs.Account.{Pair}
use Rattle.aide_agreement.specs.Happened.{HappenedThere}
use Rattle.aide_agreement.specs.Meaning.{Agrees}
use Rattle.aide_attr.specs.declared.delta.Ignore.{Ignore}
use Rattle.aide_db.specs.Map.{Database}
use Rattle.aide_fields.specs.Attributes.{Attributes}
use Rattle.aide_json.specs.Number.{count}
use Rattle.aide_left_out.specs.Meaning.{IsLeftOut}
use Rattle.aide_line_text.specs.declared.account.Account.{Account}
use Rattle.aide_line_text.specs.declared.account.Account.TheVariants.{LeftOut, Old, Trusted}
use Rattle.aide_merge.specs.Changed.{differ_by}
use Rattle.aide_line_run.specs.Listed.{ListRead, measures_between}
use Rattle.aide_line_laws.specs.Complete.{AreComplete, IsLast}
use Rattle.aide_line_laws.specs.Field.{Field, json_of}
use Rattle.aide_line_laws.specs.JsonLine.{AreJsonLines}
use Rattle.aide_line_laws.specs.Reading.{SaysAccount, text_under, value_under}

-- ---- one path

-- what two databases have at a path differs beyond what the options ignore: only one of them has
-- an entry there, or both have one and an attribute was changed, added or removed
abbrev pub differ_beyond : Ignore → Pair → Bool
differ_beyond ignore (None, None) = false
differ_beyond ignore (None, Some new) = true
differ_beyond ignore (Some old, None) = true
differ_beyond ignore (Some old, Some new) = differ_by ignore old new

-- both have an entry there, and the two agree
pub record StayedAsOld (pair : Pair) : Type 0 where
  pub old : Attributes
  pub new : Attributes
  pub both : pair ≡ (Some old, Some new)
  pub agrees : Agrees old new

-- which lines of a list leave out the change at a path
abbrev pub LeavesOut : Type 1
LeavesOut = (path : List ℕ) → Pair → (line : ℕ) → Type 0

-- the lines of a list that leave a change out; the texts say whether they have the column of
-- capabilities
abbrev pub left_out_of : ListRead → (old new : List ℕ) → LeavesOut
left_out_of list old new path pair line =
    IsLeftOut list.rules (measures_between old new) path pair line

-- What accounts for a change: the old entry exactly if it stayed as it was; otherwise the trusted
-- machine exactly if the same happened there; otherwise a line of the list exactly if it leaves the
-- change out; otherwise nothing.
pub record IsAccount (found there : Pair) (leaves : (line : ℕ) → Type 0)
    (account : Option Account) : Type 0 where
  pub old : account ≡ Some Old → StayedAsOld found
  pub from_old : StayedAsOld found → account ≡ Some Old
  pub trusted : account ≡ Some Trusted → HappenedThere found there × (StayedAsOld found → ⊥)
  pub from_trusted : HappenedThere found there → (StayedAsOld found → ⊥) → account ≡ Some Trusted
  pub left_out : (line : ℕ) → account ≡ Some (LeftOut line) → leaves line
      × (StayedAsOld found → ⊥) × (HappenedThere found there → ⊥)
  pub from_left_out : (line : ℕ) → leaves line → (StayedAsOld found → ⊥)
      → (HappenedThere found there → ⊥) → account ≡ Some (LeftOut line)

-- ---- lines

-- the line is about the path
abbrev pub IsAbout : List ℕ → List Field → Type 0
IsAbout path fields = text_under (codes "path") fields ≡ Some path

-- it is one of the lines
abbrev pub IsOneOf : List Field → List (List Field) → Type 0
IsOneOf fields [] = ⊥
IsOneOf fields (line ∷ lines) = (fields ≡ line) ⊎ IsOneOf fields lines

-- no two of the lines are about one path
abbrev pub AreApart : List (List Field) → Type 0
AreApart [] = ⊤
AreApart (line ∷ lines) =
    ((other : List Field) → IsOneOf other lines → (path : List ℕ) → IsAbout path line
    → IsAbout path other → ⊥) × AreApart lines

-- the line is a first one: it has the number of the format
abbrev pub IsFirstLine : List Field → Type 0
IsFirstLine fields = value_under (codes "format") fields ≡ Some (json_of (count 4))

-- These lines, with a first and a last one around them, which are about no path.
pub record IsFramed (lines all : List (List Field)) : Type 0 where
  pub first : List Field
  pub last : List Field
  pub parts : all ≡ first ∷ (lines ++ last ∷ [])
  pub is_first : IsFirstLine first
  pub is_last : IsLast last
  pub first_of_none : (path : List ℕ) → IsAbout path first → ⊥
  pub last_of_none : (path : List ℕ) → IsAbout path last → ⊥

-- a line is about a path at which the databases differ, and says what accounts for this
pub record SaysOne (ignore : Ignore) (old new : Database) (there : List ℕ → Pair)
    (leaves : LeavesOut) (fields : List Field) : Type 0 where
  pub path : List ℕ
  pub about : IsAbout path fields
  pub differs : differ_beyond ignore (get old path, get new path) ≡ true
  pub account : Option Account
  pub said : SaysAccount account fields
  pub right : IsAccount (get old path, get new path) (there path)
      (leaves path (get old path, get new path)) account

-- Lines about two databases, by what a trusted pair has at each path and by what a list leaves out: a path has a line
-- exactly if the two differ there beyond what the options ignore. It has one, which says what accounts for this.
pub record SayAll (ignore : Ignore) (old new : Database) (there : List ℕ → Pair)
    (leaves : LeavesOut) (lines : List (List Field)) : Type 0 where
  pub each : (fields : List Field) → IsOneOf fields lines
      → SaysOne ignore old new there leaves fields
  pub all : (path : List ℕ) → differ_beyond ignore (get old path, get new path) ≡ true
      → (fields : List Field) × IsOneOf fields lines × IsAbout path fields
  pub apart : AreApart lines

-- What was written between two moments is complete lines of JSON. Those between the first and the last one say all.
pub record HasSaidAll (ignore : Ignore) (old new : Database) (there : List ℕ → Pair)
    (leaves : LeavesOut) (before after : Option (List ℕ)) : Type 0 where
  pub text : List ℕ
  pub bytes : Appends before after text
  pub all : List (List Field)
  pub are_lines : AreJsonLines text all
  pub complete : AreComplete all
  pub lines : List (List Field)
  pub framed : IsFramed lines all
  pub say : SayAll ignore old new there leaves lines
