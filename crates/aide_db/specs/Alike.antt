-- Entries that are written alike.
use Rattle.std.specs.Prelude.{ℕ, ◌≡◌, true, List}
use Rattle.aide_db.specs.DeskView.{DeskView}
use Rattle.aide_fields.specs.Text.{is_filled}
use Rattle.aide_entry.specs.declared.column.Column.{Column}

-- the lines and the columns are the same, and the line is not empty
abbrev pub AreAlike : List Column → List ℕ → List Column → List ℕ → Type 0
AreAlike columns line other_columns other =
    (is_filled line ≡ true) × (line ≡ other) × (columns ≡ other_columns)

-- a desk holds an entry of each side, and the two are written alike
abbrev pub HoldsAlike : DeskView → Type 0
HoldsAlike d = AreAlike d.old_columns d.old_line d.new_columns d.new_line
