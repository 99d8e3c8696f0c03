-- The entry of a line.
use Rattle.std.specs.Prelude.{ℕ, ◌+◌, ◌==◌, nat_eq, Bool, true, not, ◌&&◌, if◌then◌else◌, Option}
use Rattle.std.specs.Prelude.{Some, None, is_some, unwrap_or, List, [], ◌∷◌, length, codes}
use Rattle.std.specs.List.{zip, list_all, starts_with}
use Rattle.std.specs.Int.{bit_at}
use Rattle.std.specs.Ordering.{is_lt}
use Rattle.percent_encoding.specs.Percent.{percent_decode}
use Rattle.aide_attr.specs.Attr.{bit_of, form_of, holder_of}
use Rattle.aide_attr.specs.declared.attr.Attr.{Attr}
use Rattle.aide_attr.specs.declared.form.Form.{Form}
use Rattle.aide_attr.specs.declared.form.Form.TheVariants.{Time, Digest}
use Rattle.aide_fields.specs.Text.{fields, is_filled}
use Rattle.aide_fields.specs.Path.{path_cmp}
use Rattle.aide_fields.specs.Numbers.{bits_of}
use Rattle.aide_entry.specs.Fields.{field_under, is_name, is_bits, is_of}
use Rattle.aide_fields.specs.Attributes.{Attributes, Entry, Value}
use Rattle.aide_fields.specs.Values.{value_of, is_field}
use Rattle.aide_entry.specs.declared.column.Column.{Column}
use Rattle.aide_entry.specs.declared.column.Column.TheVariants.{Name, Bits, Of, Skipped}
use Rattle.aide_entry.specs.declared.fault_kind.DbFaultKind.{DbFaultKind}
use Rattle.aide_entry.specs.declared.fault_kind.DbFaultKind.TheVariants.{FieldCount, BadName}
use Rattle.aide_entry.specs.declared.fault_kind.DbFaultKind.TheVariants.{OutOfOrder, BadNumber}
use Rattle.aide_entry.specs.declared.fault_kind.DbFaultKind.TheVariants.{BadDigest, BadTime}

-- the field with the path, as it is written
abbrev pub name_of : List Column → List ℕ → List ℕ
name_of columns line = unwrap_or (field_under is_name columns (fields line)) []

-- the path of a line's entry, without escapes
abbrev pub path_of : List Column → List ℕ → List ℕ
path_of columns line = percent_decode (name_of columns line)

-- the path begins with a slash
unfoldable pub is_path : List ℕ → Bool
is_path path = starts_with nat_eq path (codes "/")

-- the field has the form of its column; the form of the name is checked elsewhere
abbrev pub has_form : Column → List ℕ → Bool
has_form Name field = true
has_form Bits field = is_some (bits_of field)
has_form (Of attr) field = is_field (form_of attr) field
has_form Skipped field = true

-- each field has the form of its column
abbrev pub have_forms : List Column → List (List ℕ) → Bool
have_forms columns fields = list_all (λ pair. has_form pair.0 pair.1) (zip columns fields)

-- the line has an entry under these columns
abbrev pub has_entry : List Column → List ℕ → Bool
has_entry columns line = (length (fields line) == length columns) && is_path (path_of columns line)
    && have_forms columns (fields line)

-- the path of the first line's entry comes before the path of the second one's
abbrev pub is_before : List Column → List ℕ → List ℕ → Bool
is_before columns x y = is_lt (path_cmp (path_of columns x) (path_of columns y))

-- there is no last entry, or its path comes before the path of the line's entry
abbrev pub follows : List Column → List ℕ → List ℕ → Bool
follows columns last line = if is_filled last then is_before columns last line else true

-- the fault of a column whose field is not one of this form
abbrev pub fault_of_form : Form → ℕ → DbFaultKind
fault_of_form Time column = BadTime column
fault_of_form (Digest least most) column = BadDigest column
fault_of_form _ column = BadNumber column

-- the fault of a column whose field does not have its form
abbrev pub fault_of_column : Column → ℕ → DbFaultKind
fault_of_column (Of attr) number = fault_of_form (form_of attr) number
fault_of_column _ number = BadNumber number

-- the fault of the first column whose field does not have its form; the columns are counted from this number
abbrev pub first_bad_from : ℕ → List (Column × List ℕ) → Option DbFaultKind
first_bad_from number [] = None
first_bad_from number (pair ∷ pairs) =
    if has_form pair.0 pair.1 then first_bad_from (number + 1) pairs
    else Some (fault_of_column pair.0 number)

-- the fault of the first column whose field does not have its form; the columns are counted from 1
abbrev pub first_bad : List Column → List (List ℕ) → Option DbFaultKind
first_bad columns fields = first_bad_from 1 (zip columns fields)

-- the fault of a line as the entry after these entries
abbrev pub entry_fault : List Column → List (List ℕ) → List ℕ → Option DbFaultKind
entry_fault columns entries line =
    if not (length (fields line) == length columns) then Some FieldCount else (
    if not (is_path (path_of columns line)) then Some BadName else (
    if not (list_all (λ entry. is_before columns entry line) entries) then Some OutOfOrder else
    first_bad columns (fields line)))

-- The field of bits lets the attribute count: there is no such field, the attribute has no bit, or its bit is set.
abbrev pub is_on : Option ℕ → Option (List ℕ) → Bool
is_on None bits = true
is_on (Some bit) None = true
is_on (Some bit) (Some bits) = bit_at (unwrap_or (bits_of bits) 0) bit == 1

-- the field of the attribute's column, if it counts
abbrev pub field_of : List Column → List ℕ → Attr → Option (List ℕ)
field_of columns line attr =
    if is_on (bit_of attr) (field_under is_bits columns (fields line))
    then field_under (is_of (holder_of attr)) columns (fields line) else None

-- the value of a field of this form, if there is a field
abbrev pub value_in : Form → Option (List ℕ) → Option Value
value_in form None = None
value_in form (Some field) = value_of form field

-- the value that the entry of a line has for each attribute
abbrev pub attributes_of : List Column → List ℕ → Attributes
attributes_of columns line attr = value_in (form_of attr) (field_of columns line attr)

-- the entry of a line: its path and its attributes
abbrev pub entry_of : List Column → List ℕ → Entry
entry_of columns line = (path_of columns line, attributes_of columns line)
