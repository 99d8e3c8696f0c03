-- What can be wrong with a line of a database, one fault at a time, and which fault of a line is reported.
use Rattle.std.specs.Prelude.{ℕ, ◌==◌, nat_lt, Bool, true, false, not, ◌&&◌, ◌||◌, List, []}
use Rattle.std.specs.Prelude.{◌∷◌, length, find, unwrap_or, flat_map, zip}
use Rattle.std.specs.List.{list_any, range_with_len, enumerate_from}
use Rattle.aide_attr.specs.Attr.{form_of}
use Rattle.aide_attr.specs.declared.form.Form.{Form}
use Rattle.aide_attr.specs.declared.form.Form.TheVariants.{Kind, Mode, Number, Time, Digest}
use Rattle.aide_fields.specs.Text.{fields}
use Rattle.aide_entry.specs.Lines.{kind_of, is_end, counts}
use Rattle.aide_entry.specs.Fields.{columns_of, are_columns, most_columns}
use Rattle.aide_entry.specs.Entry.{path_of, is_path, is_before, has_form}
use Rattle.aide_entry.specs.declared.column.Column.{Column}
use Rattle.aide_entry.specs.declared.column.Column.TheVariants.{Bits, Of}
use Rattle.aide_entry.specs.declared.line.LineKind.{LineKind}
use Rattle.aide_entry.specs.declared.line.LineKind.TheVariants as kinds
use Rattle.aide_entry.specs.declared.fault_kind.DbFaultKind.{DbFaultKind}
use Rattle.aide_entry.specs.declared.fault_kind.DbFaultKind.TheVariants.{LineTooLong, NoBegin}
use Rattle.aide_entry.specs.declared.fault_kind.DbFaultKind.TheVariants.{BadDirective, BadSpec}
use Rattle.aide_entry.specs.declared.fault_kind.DbFaultKind.TheVariants.{NoSpec, FieldCount}
use Rattle.aide_entry.specs.declared.fault_kind.DbFaultKind.TheVariants.{BadName, OutOfOrder}
use Rattle.aide_entry.specs.declared.fault_kind.DbFaultKind.TheVariants.{BadNumber, BadTime}
use Rattle.aide_entry.specs.declared.fault_kind.DbFaultKind.TheVariants.{BadDigest}

-- ---- the order

-- The faults of the field under a column. Only one of them can be a fault of that column, by its form.
abbrev pub faults_of_column : ℕ → List DbFaultKind
faults_of_column column = BadNumber column ∷ BadTime column ∷ BadDigest column ∷ []

-- the faults of fields, by the numbers of their columns, which are counted from 1
unfoldable pub field_faults : List DbFaultKind
field_faults = flat_map faults_of_column (range_with_len 1 most_columns)

-- the faults that a line can have, in the order in which they are reported
unfoldable pub fault_order : List DbFaultKind
fault_order =
    LineTooLong ∷ NoBegin ∷ BadDirective ∷ BadSpec ∷ NoSpec ∷ FieldCount ∷ BadName ∷ OutOfOrder
    ∷ field_faults

-- ---- the line, and the lines before it

-- both are the same kind of line
abbrev pub is_kind : LineKind → LineKind → Bool
is_kind kinds.Blank kinds.Blank = true
is_kind kinds.Begin kinds.Begin = true
is_kind kinds.Spec kinds.Spec = true
is_kind kinds.End kinds.End = true
is_kind kinds.Directive kinds.Directive = true
is_kind kinds.Other kinds.Other = true
is_kind _ _ = false

-- the line is of this kind
abbrev pub is_a : LineKind → List ℕ → Bool
is_a kind line = is_kind kind (kind_of line)

-- one of the lines is of this kind
abbrev pub have_a : LineKind → List (List ℕ) → Bool
have_a kind lines = list_any (is_a kind) lines

-- the columns that the first spec line among these lines names
abbrev pub columns_named : List (List ℕ) → List Column
columns_named lines = columns_of (unwrap_or (find (is_a kinds.Spec) lines) [])

-- ---- faults of any line

-- the line has more bytes than the limit
abbrev pub is_too_long : ℕ → List ℕ → Bool
is_too_long limit line = nat_lt limit (length line)

-- the line is not skipped, and neither it nor a line before it is a begin line
abbrev pub lacks_begin : List (List ℕ) → List ℕ → Bool
lacks_begin before line = counts line && not (have_a kinds.Begin before || is_a kinds.Begin line)

-- the line is a second begin line, a second spec line, or any other directive that is not an end line
abbrev pub is_unexpected : List (List ℕ) → List ℕ → Bool
is_unexpected before line =
    (is_a kinds.Begin line && have_a kinds.Begin before)
    || (is_a kinds.Spec line && have_a kinds.Spec before)
    || is_a kinds.Directive line

-- the line is a spec line, and what it names may not be the columns of a database
abbrev pub names_bad_columns : List ℕ → Bool
names_bad_columns line = is_a kinds.Spec line && not (are_columns (columns_of line))

-- the line is an end line or is to be an entry, and no line before it is a spec line
abbrev pub lacks_spec : List (List ℕ) → List ℕ → Bool
lacks_spec before line =
    (is_end line || is_a kinds.Other line) && not (have_a kinds.Spec before)

-- ---- faults of a line that is to be an entry, under the columns that a line before it names, or under none

-- the line has more or fewer fields than there are columns
abbrev pub has_other_count : List Column → List ℕ → Bool
has_other_count columns line =
    is_a kinds.Other line && not (length (fields line) == length columns)

-- the path of the line does not begin with a slash
abbrev pub has_bad_name : List Column → List ℕ → Bool
has_bad_name columns line = is_a kinds.Other line && not (is_path (path_of columns line))

-- the path of some entry before the line does not come before the path of the line
abbrev pub is_out_of_order : List Column → List (List ℕ) → List ℕ → Bool
is_out_of_order columns before line =
    is_a kinds.Other line
    && list_any (λ entry. is_a kinds.Other entry && not (is_before columns entry line)) before

-- ---- faults of one field

-- values of this form are numbers
abbrev pub is_number_form : Form → Bool
is_number_form Kind = true
is_number_form Mode = true
is_number_form Number = true
is_number_form _ = false

-- values of this form are times
abbrev pub is_time_form : Form → Bool
is_time_form Time = true
is_time_form _ = false

-- values of this form are digests
abbrev pub is_digest_form : Form → Bool
is_digest_form (Digest least most) = true
is_digest_form _ = false

-- the fields of the column are numbers
abbrev pub is_of_numbers : Column → Bool
is_of_numbers Bits = true
is_of_numbers (Of attr) = is_number_form (form_of attr)
is_of_numbers _ = false

-- the column is that of an attribute whose values pass this test of forms
abbrev pub is_of_form : (Form → Bool) → Column → Bool
is_of_form test (Of attr) = test (form_of attr)
is_of_form test _ = false

-- the column of this number passes the test, and the field under it is not of the form that the column asks for
abbrev pub has_bad_field : (Column → Bool) → List Column → List ℕ → ℕ → Bool
has_bad_field test columns line number =
    is_a kinds.Other line && list_any
    (λ cell. (cell.0 == number) && (test cell.1.0 && not (has_form cell.1.0 cell.1.1)))
    (enumerate_from 1 (zip columns (fields line)))

-- ---- all of them

-- Whether a fault is true of a line after these lines, whatever else is wrong with the line. The faults of the end of a
-- text, of memory, of the device and of the byte limit are not faults of a line.
abbrev pub is_wrong : ℕ → List (List ℕ) → List ℕ → DbFaultKind → Bool
is_wrong limit before line LineTooLong = is_too_long limit line
is_wrong limit before line NoBegin = lacks_begin before line
is_wrong limit before line BadDirective = is_unexpected before line
is_wrong limit before line BadSpec = names_bad_columns line
is_wrong limit before line NoSpec = lacks_spec before line
is_wrong limit before line FieldCount = has_other_count (columns_named before) line
is_wrong limit before line BadName = has_bad_name (columns_named before) line
is_wrong limit before line OutOfOrder = is_out_of_order (columns_named before) before line
is_wrong limit before line (BadNumber number) =
    has_bad_field is_of_numbers (columns_named before) line number
is_wrong limit before line (BadTime number) =
    has_bad_field (is_of_form is_time_form) (columns_named before) line number
is_wrong limit before line (BadDigest number) =
    has_bad_field (is_of_form is_digest_form) (columns_named before) line number
is_wrong _ _ _ _ = false

-- the line has the fault; a line after an end line has none
unfoldable pub has_fault : ℕ → List (List ℕ) → List ℕ → DbFaultKind → Bool
has_fault limit before line kind = not (list_any is_end before) && is_wrong limit before line kind
