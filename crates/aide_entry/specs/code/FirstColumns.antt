-- Where the first column of a kind is, and the number in the field of bits.
use Rattle.std.specs.Prelude.{ℕ, zero, suc, ◌==◌, Bool, true, if◌then◌else◌, Option, Some, None}
use Rattle.std.specs.Prelude.{unwrap_or, List, [], ◌∷◌, drop, slice_index, ◌≡◌}
use Rattle.std.specs.Int.{bit_at}
use Rattle.aide_entry.specs.code.Codes.{code_of}
use Rattle.aide_entry.specs.Fields.{field_under, is_column, is_bits}
use Rattle.aide_fields.specs.Numbers.{bits_of}
use Rattle.aide_fields.specs.Spans.{first_in}
use Rattle.aide_fields.specs.Text.{fields}
use Rattle.aide_entry.specs.declared.column.Column.{Column}

-- the same if one more column comes before it; 0 stays 0
abbrev pub one_behind : ℕ → ℕ
one_behind zero = 0
one_behind (suc index) = suc (suc index)

-- the index of the first column that passes the test, plus 1, or 0 if no column does
abbrev pub first_column : (Column → Bool) → List Column → ℕ
first_column test [] = 0
first_column test (column ∷ columns) =
    if test column then 1 else one_behind (first_column test columns)

-- for each column, by its number, where the first column of its kind is
abbrev pub AreFirstColumns : List ℕ → List Column → Type 0
AreFirstColumns firsts columns = (wanted : Column)
    → slice_index firsts (code_of wanted) ≡ first_column (is_column wanted) columns

-- the field under the first column of a kind, or none if there is no such column
abbrev pub field_at_first : ℕ → List (List ℕ) → Option (List ℕ)
field_at_first zero fields = None
field_at_first (suc index) fields = first_in (drop index fields)

-- the number in a field of bits, or 0 if the field is not a number
abbrev pub bits_said : Option (List ℕ) → Option ℕ
bits_said None = None
bits_said (Some field) = Some (unwrap_or (bits_of field) 0)

-- the number in a line's field of bits, if it has one
abbrev pub bits_in : List Column → List ℕ → Option ℕ
bits_in columns line = bits_said (field_under is_bits columns (fields line))

-- there is no bit, there is no number, or the bit is set in the number
abbrev pub is_set : Option ℕ → Option ℕ → Bool
is_set None bits = true
is_set (Some bit) None = true
is_set (Some bit) (Some bits) = bit_at bits bit == 1
