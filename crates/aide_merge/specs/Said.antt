-- What a report shows of a change: its summary string, its attributes, and whether the change is listed.
use Rattle.std.specs.Prelude.{ℕ, Bool, true, false, ◌&&◌, List, [], Some, None, is_some, ◌||◌}
use Rattle.std.specs.List.{list_any}
use Rattle.aide_attr.specs.Attr.{all_attrs}
use Rattle.aide_attr.specs.Difference.{is_shown}
use Rattle.aide_agreement.specs.Account.{Pair}
use Rattle.aide_attr.specs.Summary.{summary_letters, alone_letters}
use Rattle.aide_attr.specs.declared.attr.Attr.{Attr}
use Rattle.aide_attr.specs.declared.attr.Attr.TheVariants.{Ftype}
use Rattle.aide_attr.specs.declared.delta.Ignore.{Ignore}
use Rattle.aide_attr.specs.declared.level.Level.{Level}
use Rattle.aide_attr.specs.declared.level.Level.TheVariants.{AddedRemovedEntries}
use Rattle.aide_attr.specs.declared.summary_string.Alone.TheVariants.{Added, Removed}
use Rattle.aide_conf.specs.declared.options.Options.{Options}
use Rattle.aide_fields.specs.Attributes.{Attributes, sides_between, type_in}
use Rattle.aide_merge.specs.Compare.{Change}
use Rattle.aide_merge.specs.Changed.{differ_by}
use Rattle.aide_merge.specs.Changes.{is_added, is_removed, is_changed}
use Rattle.aide_text.specs.declared.section.Contents.{Contents}
use Rattle.aide_text.specs.declared.section.Contents.TheVariants.{Listed, Detailed}

-- a path, and the entry of each database at this path
abbrev pub PathChange : Type 0
PathChange = Change (List ℕ) Attributes

-- the summary string of a change
abbrev pub letters_of : Ignore → Pair → List ℕ
letters_of ignore (None, None) = []
letters_of ignore (None, Some new) = alone_letters (type_in (new Ftype)) Added
letters_of ignore (Some old, None) = alone_letters (type_in (old Ftype)) Removed
letters_of ignore (Some old, Some new) = summary_letters (sides_between old new) ignore

-- whether the details of added and removed entries are shown
abbrev pub shows_alone : Level → Bool
shows_alone AddedRemovedEntries = true
shows_alone _ = false

-- whether the details of a path show the attribute, by the entries of both databases
abbrev pub shows_at : Options → Pair → Attr → Bool
shows_at options (None, None) a = false
shows_at options (None, Some new) a = shows_alone options.level && is_some (new a)
shows_at options (Some old, None) a = shows_alone options.level && is_some (old a)
shows_at options (Some old, Some new) a =
    is_shown (sides_between old new) options.ignore options.level a

-- whether the details of a path show some attribute
unfoldable pub shows_any : Options → Pair → Bool
shows_any options pair = list_any (shows_at options pair) all_attrs

-- whether details show some attribute of a change
abbrev pub is_shown_entry : Options → PathChange → Bool
is_shown_entry options entry = shows_any options entry.1

-- a list of the added, the removed and the changed entries
abbrev pub all_listed : Contents
all_listed = Listed true true true

-- whether the change is in a section with these contents
abbrev pub is_in : Options → Contents → PathChange → Bool
is_in options (Listed added removed changed) entry =
    (added && is_added entry)
    || ((removed && is_removed entry) || (changed && is_changed (differ_by options.ignore) entry))
is_in options Detailed entry = shows_any options entry.1
