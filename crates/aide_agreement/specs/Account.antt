-- What accounts for a change, by what four databases have at its path.
use Rattle.std.specs.Prelude.{◌≡◌, Bool, true, false, not, ◌&&◌, if◌then◌else◌, Option, Some, None}
use Rattle.std.specs.List.{list_any}
use Rattle.aide_attr.specs.Attr.{all_attrs}
use Rattle.aide_attr.specs.Difference.{is_affected}
use Rattle.aide_fields.specs.Attributes.{Attributes, sides_between}
use Rattle.aide_agreement.specs.Agreement.{agree}
use Rattle.aide_agreement.specs.Trusted.{changed_too, keeps_rights}
use Rattle.aide_agreement.specs.declared.account.SameAs.{SameAs}
use Rattle.aide_agreement.specs.declared.account.SameAs.TheVariants.{Old, Trusted}

-- what an old and a new database have at one path
abbrev pub Pair : Type 0
Pair = Option Attributes × Option Attributes

-- both entries are there and agree
abbrev pub is_as_old : Pair → Bool
is_as_old (Some old, Some new) = agree old new
is_as_old _ = false

-- A new entry came as the one that agrees with it came on a trusted machine: both are new; or only that one is, and
-- here no right changed; or that one does not agree with the one before, and what changed here changed there too.
abbrev pub came_too : (old : Option Attributes) → (new : Attributes) → (before : Option Attributes)
    → (there : Attributes) → Bool
came_too None new None there = true
came_too (Some old) new None there = keeps_rights old new
came_too (Some old) new (Some before) there =
    not (agree before there) && changed_too old new before there
came_too None new (Some before) there = false

-- The same happened at this path of a trusted machine. If there is a new entry, the machine's new entry agrees with it,
-- and came as it did. If the entry was removed, the machine removed one that agrees with it.
abbrev pub is_as_trusted : (found trusted : Pair) → Bool
is_as_trusted (old, Some new) (before, Some there) =
    agree new there && came_too old new before there
is_as_trusted (Some old, None) (Some before, None) = agree old before
is_as_trusted _ _ = false

-- what accounts for a change: the old entry is asked first, then the trusted machine
unfoldable pub same_as : (found trusted : Pair) → Option SameAs
same_as found trusted =
    if is_as_old found then Some Old else (
    if is_as_trusted found trusted then Some Trusted else None)

-- two databases have a change there: only one of them has an entry, or the entries differ in an attribute
abbrev pub is_change : Pair → Bool
is_change (Some old, Some new) = list_any (is_affected (sides_between old new)) all_attrs
is_change (None, None) = false
is_change _ = true

-- two databases have a change there, for which the old entry does not account
pub record IsUnaccounted (pair : Pair) : Type 0 where
  pub changed : is_change pair ≡ true
  pub alone : same_as pair (None, None) ≡ None
