-- Whether what changed here changed on a trusted machine too, by how entries differ.
use Rattle.std.specs.Prelude.{Bool, false, not, ◌&&◌, ◌||◌, Option, Some, None}
use Rattle.std.specs.List.{list_any}
use Rattle.aide_attr.specs.Attr.{all_attrs}
use Rattle.aide_attr.specs.Difference.{Sides, is_affected, is_changed}
use Rattle.aide_attr.specs.Set.{is_attr}
use Rattle.aide_attr.specs.declared.attr.Attr.{Attr}
use Rattle.aide_attr.specs.declared.attr.Attr.TheVariants.{Linkcount, Lname}
use Rattle.aide_attr.specs.declared.file_type.FileType.{FileType}
use Rattle.aide_fields.specs.Attributes.{Attributes, sides_between}
use Rattle.aide_agreement.specs.Agreement.{have_targets, says_rights, shares_content}
use Rattle.aide_agreement.specs.Own.{is_content, is_directory, is_right}

-- the entries differ in a right, or only one of them has it
abbrev pub moves_right : Sides → Attr → Bool
moves_right s a = is_right a && is_affected s a

-- both entries have the attribute with different values, and it says what the content is
abbrev pub differs_in_content : (directories : Bool) → Sides → Attr → Bool
differs_in_content directories s a = is_changed s a && is_content directories a

-- two entries, of which the second one has this type, surely have the same content
abbrev pub has_same_content : FileType → Sides → (targets : Bool) → Bool
has_same_content kind s targets = shares_content kind s targets
    && not (list_any (differs_in_content (is_directory kind) s) all_attrs)

-- Two entries, of which the second one has this type, surely have different contents. A target that one of them does
-- not have may be any.
abbrev pub shows_other : (directories targets : Bool) → Sides → Attr → Bool
shows_other directories targets s a =
    differs_in_content directories s a && (targets || not (is_attr a Lname))

-- some part of the content of two entries, of which the second one has this type, surely differs
abbrev pub has_other_content : FileType → Sides → (targets : Bool) → Bool
has_other_content kind s targets = list_any (shows_other (is_directory kind) targets s) all_attrs

-- a right that changed here was another one on the trusted machine before
abbrev pub brings_right : (here before : Sides) → Attr → Bool
brings_right here before a = moves_right here a && is_affected before a

-- If the link count changed here, it was the same on the trusted machine before, or is surely another one there.
abbrev pub links_too : (here before there : Sides) → Bool
links_too here before there = not (is_affected here Linkcount)
    || (not (is_affected before Linkcount) || is_changed there Linkcount)

-- If the content is not surely the same here, it is surely another one there.
abbrev pub content_too : Option FileType → (here there : Sides)
    → (here_targets there_targets : Bool) → Bool
content_too None here there here_targets there_targets = false
content_too (Some kind) here there here_targets there_targets =
    has_same_content kind here here_targets || has_other_content kind there there_targets

-- What changed here changed on a trusted machine too, by how the old entry differs from the new one and from the one
-- there before, and by how that differs from the new one there.
abbrev pub changed_by : (here before there : Sides)
    → (here_targets there_targets : Bool) → Bool
changed_by here before there here_targets there_targets = says_rights here.in_old
    && (not (list_any (brings_right here before) all_attrs) && (links_too here before there
    && content_too here.new_type here there here_targets there_targets))

-- What changed here, from an old entry to a new one, changed on a trusted machine too, where the entry before became
-- one that agrees with the new one: no right is new here that was not new there, and so for the content and the links.
unfoldable pub changed_too : (old new before there : Attributes) → Bool
changed_too old new before there =
    changed_by (sides_between old new) (sides_between old before) (sides_between before there)
    (have_targets old new) (have_targets before there)

-- no right changed
abbrev pub keeps_rights : (old new : Attributes) → Bool
keeps_rights old new = not (list_any (moves_right (sides_between old new)) all_attrs)
