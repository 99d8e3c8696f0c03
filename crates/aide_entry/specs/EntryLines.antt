-- Entry lines, and their order.
use Rattle.std.specs.Prelude.{ℕ, ◌≡◌, true, List}
use Rattle.aide_fields.specs.Text.{is_filled}
use Rattle.aide_entry.specs.Lines.{kind_of}
use Rattle.aide_entry.specs.Entry.{has_entry, is_before}
use Rattle.aide_entry.specs.declared.column.Column.{Column}
use Rattle.aide_entry.specs.declared.line.LineKind.TheVariants.{Other}

-- the line is not a comment and not a directive, and it has an entry under the columns
abbrev pub IsEntryLine : List Column → List ℕ → Type 0
IsEntryLine columns line = (kind_of line ≡ Other) × (has_entry columns line ≡ true)

-- if the list is not empty, it is an entry line under the columns
abbrev pub IsHeld : List Column → List ℕ → Type 0
IsHeld columns list = is_filled list ≡ true → IsEntryLine columns list

-- the path of the first line comes before the path of the second one
abbrev pub IsBefore : List Column → List ℕ → List ℕ → Type 0
IsBefore columns x y = is_before columns x y ≡ true
