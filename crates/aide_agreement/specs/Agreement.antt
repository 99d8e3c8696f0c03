-- When two entries agree.
use Rattle.std.specs.Prelude.{Bool, true, false, not, ◌&&◌, ◌||◌, Option, Some, None}
use Rattle.std.specs.List.{list_any}
use Rattle.aide_attr.specs.Attr.{all_attrs}
use Rattle.aide_attr.specs.Difference.{Sides, is_added, is_changed, is_removed, is_same}
use Rattle.aide_attr.specs.declared.attr.Attr.{Attr}
use Rattle.aide_attr.specs.declared.attr.Attr.TheVariants.{Gid, Lname, Perm, Uid}
use Rattle.aide_attr.specs.declared.file_type.FileType.{FileType}
use Rattle.aide_attr.specs.declared.file_type.FileType.TheVariants.{Block, Char, File, Link, Other}
use Rattle.aide_fields.specs.Attributes.{Attributes, Value, link_in, sides_between}
use Rattle.aide_agreement.specs.Own.{is_digest, is_directory, is_own, is_strong}

-- only one of the entries has the attribute
abbrev pub is_alone : Sides → Attr → Bool
is_alone s a = is_added s a || is_removed s a

-- The entries stray from each other at an attribute that no machine has of its own. Either both have it, with different
-- values, or only one has it and it is not a digest.
abbrev pub strays : (directories : Bool) → Sides → Attr → Bool
strays directories s a =
    (is_changed s a || (is_alone s a && not (is_digest a))) && not (is_own directories a)

-- both entries have the same digest there, of at least 256 bits
abbrev pub is_shared : Sides → Attr → Bool
is_shared s a = is_same s a && is_strong a

-- the value is the name of a link's target
abbrev pub has_target : Option Value → Bool
has_target value = elim (link_in value) [
  | Some (Some target) ↦ true
  | Some None ↦ false
  | None ↦ false
]

-- both entries have the name of a link's target
abbrev pub have_targets : (first second : Attributes) → Bool
have_targets first second = has_target (first Lname) && has_target (second Lname)

-- Entries of this type have the same content. Regular files need a common digest of at least 256 bits, and links need
-- targets. Devices never have the same content, because an entry does not contain their numbers, nor has what is of a
-- type that Linux does not have. Directories, FIFOs and sockets have no content.
abbrev pub shares_content : FileType → Sides → (targets : Bool) → Bool
shares_content File s targets = list_any (is_shared s) all_attrs
shares_content Link s targets = targets
shares_content Char s targets = false
shares_content Block s targets = false
shares_content (Other bits) s targets = false
shares_content _ s targets = true

-- entries of this type have the same content and do not stray from each other; without a type nobody knows
abbrev pub are_same_by : Option FileType → Sides → (targets : Bool) → Bool
are_same_by None s targets = false
are_same_by (Some kind) s targets =
    shares_content kind s targets && not (list_any (strays (is_directory kind) s) all_attrs)

-- an entry with these attributes says who may do what with its file: it has permissions, an owner and a group
abbrev pub says_rights : (Attr → Bool) → Bool
says_rights is_there = is_there Perm && (is_there Uid && is_there Gid)

-- two entries agree by how they differ, and by whether both have targets
abbrev pub agree_by : Sides → (targets : Bool) → Bool
agree_by s targets = says_rights s.in_old && are_same_by s.old_type s targets

-- Two entries agree: they say who may do what, and have the same type, the same content, and the same attributes with
-- the same values. What each machine has of its own does not count, and a digest counts only if both have it.
unfoldable pub agree : (first second : Attributes) → Bool
agree first second = agree_by (sides_between first second) (have_targets first second)
