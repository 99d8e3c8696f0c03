-- The columns of a database.
use Rattle.std.specs.Prelude.{ℕ, nat_le, Bool, true, false, not, ◌&&◌, if◌then◌else◌, Option, Some}
use Rattle.std.specs.Prelude.{None, List, [], ◌∷◌, length, codes, map, drop}
use Rattle.std.specs.List.{list_any}
use Rattle.std.specs.Str.{bytes_eq}
use Rattle.aide_attr.specs.Attr.{attr_of_column}
use Rattle.aide_attr.specs.Set.{is_attr}
use Rattle.aide_attr.specs.declared.attr.Attr.{Attr}
use Rattle.aide_fields.specs.Text.{fields}
use Rattle.aide_entry.specs.declared.column.Column.{Column}
use Rattle.aide_entry.specs.declared.column.Column.TheVariants.{Name, Bits, Of, Skipped}

-- the column of an attribute, or an unknown column
abbrev pub column_for : Option Attr → Column
column_for None = Skipped
column_for (Some attr) = Of attr

-- the meaning of a column, by its name
unfoldable pub column_named : List ℕ → Column
column_named name =
    if bytes_eq name (codes "name") then Name else (
    if bytes_eq name (codes "attr") then Bits else column_for (attr_of_column name))

-- the columns that a spec line names
abbrev pub columns_of : List ℕ → List Column
columns_of line = map column_named (drop 1 (fields line))

-- the column of paths
abbrev pub is_name : Column → Bool
is_name Name = true
is_name _ = false

-- the column of the bits that mark the attributes of an entry
abbrev pub is_bits : Column → Bool
is_bits Name = false
is_bits Bits = true
is_bits (Of attr) = false
is_bits Skipped = false

-- an unknown column
abbrev pub is_skipped : Column → Bool
is_skipped Skipped = true
is_skipped _ = false

-- the column of this attribute
abbrev pub is_of : Attr → Column → Bool
is_of wanted Name = false
is_of wanted Bits = false
is_of wanted (Of attr) = is_attr wanted attr
is_of wanted Skipped = false

-- the test that only this kind of column passes
abbrev pub is_column : Column → Column → Bool
is_column Name = is_name
is_column Bits = is_bits
is_column (Of attr) = is_of attr
is_column Skipped = is_skipped

-- the column is known, and is among the others too
abbrev pub stands_again : Column → List Column → Bool
stands_again column others = not (is_skipped column) && list_any (is_column column) others

-- no known column is there twice
abbrev pub are_distinct : List Column → Bool
are_distinct [] = true
are_distinct (column ∷ columns) = not (stands_again column columns) && are_distinct columns

-- the most columns that a database may have
abbrev pub most_columns : ℕ
most_columns = 64

-- there are at most 64 columns, the name is among them, and no known column is there twice
abbrev pub are_columns : List Column → Bool
are_columns columns = nat_le (length columns) most_columns && list_any is_name columns
    && are_distinct columns

-- the field under the first column that passes the test
abbrev pub field_under : (Column → Bool) → List Column → List (List ℕ) → Option (List ℕ)
field_under test [] fields = None
field_under test (column ∷ columns) [] = None
field_under test (column ∷ columns) (field ∷ fields) =
    if test column then Some field else field_under test columns fields
