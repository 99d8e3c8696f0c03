-- The lines of JSON about the changes of two databases.
use Rattle.std.specs.Prelude.{ℕ, if◌then◌else◌, List, [], Option}
use Rattle.std.specs.List.{flat_map, filter}
use Rattle.aide_line_text.specs.declared.account.Account.{Account}
use Rattle.aide_attr.specs.declared.level.Level.TheVariants.{AddedRemovedEntries}
use Rattle.aide_conf.specs.declared.options.Options.{Options}
use Rattle.aide_line_text.specs.Entry.{entry_line}
use Rattle.aide_merge.specs.Said.{PathChange, letters_of, shows_at}
use Rattle.aide_merge.specs.Said.{all_listed, is_in}

-- the options of the report that shows most
abbrev pub widest : Options → Options
widest options = record options { level = AddedRemovedEntries }

-- what accounts for each change, if anything does
abbrev pub Accounts : Type 0
Accounts = PathChange → Option Account

-- the line of a change: its summary string, what accounts for it, and the attributes that a report of the highest level
-- shows
unfoldable pub change_line : Options → Accounts → PathChange → List ℕ
change_line options account change =
    entry_line change.0 (letters_of options.ignore change.1) (account change)
    (shows_at (widest options) change.1) change.1

-- the line of a change, or the empty text if the report does not list the change
unfoldable pub listed_line : Options → Accounts → PathChange → List ℕ
listed_line options account change =
    if is_in options all_listed change then change_line options account change else []

-- the changes that have a line: the added, the removed and the changed entries
abbrev pub listed_changes : Options → List PathChange → List PathChange
listed_changes options changes = filter (is_in options all_listed) changes

-- their lines, in their order
unfoldable pub change_lines : Options → Accounts → List PathChange → List ℕ
change_lines options account changes =
    flat_map (change_line options account) (listed_changes options changes)
