-- The entry that a view lends.
use Rattle.std.specs.Prelude.{ℕ, ◌≡◌, Option, Some, None, List, [], ◌∷◌}
use Rattle.aide_entry.specs.Columns.{columns_in}
use Rattle.aide_fields.specs.Attributes.{Entry}
use Rattle.aide_entry.specs.Entry.{entry_of, name_of}
use Rattle.aide_entry.specs.declared.column.Column.{Column}
use Rattle.aide_entry.specs.declared.view.View.{View}

-- the line that a view lends
abbrev pub line_in : View → List ℕ
line_in view = view.line.now

-- the columns that the line is under
abbrev pub columns_under : View → List Column
columns_under view = columns_in view.columns.now

-- the entry of its line under its columns
abbrev pub entry_in : View → Entry
entry_in view = entry_of (columns_in view.columns.now) view.line.now

-- the field with the path of the entry, as it is written
abbrev pub name_in : View → List ℕ
name_in view = name_of (columns_in view.columns.now) view.line.now

-- the entry of a list under these columns, or none if the list is empty
abbrev pub entry_at : List Column → List ℕ → Option Entry
entry_at columns [] = None
entry_at columns (byte ∷ bytes) = Some (entry_of columns (byte ∷ bytes))

-- a view of the entry, if there is an entry
abbrev pub Shows : Option View → Option Entry → Type 0
Shows None entry = entry ≡ None
Shows (Some view) entry = entry ≡ Some (entry_in view)
