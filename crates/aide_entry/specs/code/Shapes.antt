-- What the fields of a column have to be.
use Rattle.std.specs.Prelude.{ℕ, ◌+◌, ◌≤◌, Bool, true, ◌||◌, if◌then◌else◌, Option, Some, None}
use Rattle.std.specs.Prelude.{is_some, List, [], ◌∷◌}
use Rattle.aide_attr.specs.Attr.{form_of}
use Rattle.aide_attr.specs.declared.form.Form.{Form}
use Rattle.aide_attr.specs.declared.form.Form.TheVariants.{Kind, Mode, Number, Time, Link, Digest}
use Rattle.aide_attr.specs.declared.form.Form.TheVariants.{Opaque}
use Rattle.aide_fields.specs.Numbers.{mode_of, number_of, bits_of}
use Rattle.aide_fields.specs.Values.{time_of, digest_of, is_nought}
use Rattle.aide_entry.specs.declared.column.Column.{Column}
use Rattle.aide_entry.specs.declared.column.Column.TheVariants.{Name, Bits, Of, Skipped}
use Rattle.aide_entry.specs.declared.shape.Shape.{Shape}
use Rattle.aide_entry.specs.declared.shape.Shape.TheVariants.{Free, Octal, Signed, Unsigned}
use Rattle.aide_entry.specs.declared.shape.Shape.TheVariants.{Seconds, Encoded}
use Rattle.aide_entry.specs.declared.fault_kind.DbFaultKind.{DbFaultKind}
use Rattle.aide_entry.specs.declared.fault_kind.DbFaultKind.TheVariants.{BadNumber, BadTime}
use Rattle.aide_entry.specs.declared.fault_kind.DbFaultKind.TheVariants.{BadDigest}

-- what a field of this form has to be
abbrev pub shape_of_form : Form → Shape
shape_of_form Kind = Octal
shape_of_form Mode = Octal
shape_of_form Number = Signed
shape_of_form Time = Seconds
shape_of_form Link = Free
shape_of_form (Digest least most) = Encoded least most
shape_of_form Opaque = Free

-- what the fields of a column have to be
abbrev pub shape_of : Column → Shape
shape_of Name = Free
shape_of Bits = Unsigned
shape_of (Of attr) = shape_of_form (form_of attr)
shape_of Skipped = Free

-- the most bytes of a digest of this shape
abbrev pub most_of : Shape → ℕ
most_of (Encoded least most) = most
most_of _ = 0

-- a digest of this shape has at most 64 bytes
abbrev pub IsShort : Shape → Type 0
IsShort shape = most_of shape ≤ 64

-- the field is of this shape
abbrev pub has_shape : Shape → List ℕ → Bool
has_shape Free field = true
has_shape Octal field = is_some (mode_of field)
has_shape Signed field = is_some (number_of field)
has_shape Unsigned field = is_some (bits_of field)
has_shape Seconds field = is_some (time_of field)
has_shape (Encoded least most) field = is_nought field || is_some (digest_of least most field)

-- the fault of a column whose field is not of this shape
abbrev pub fault_of_shape : Shape → ℕ → DbFaultKind
fault_of_shape Seconds column = BadTime column
fault_of_shape (Encoded least most) column = BadDigest column
fault_of_shape _ column = BadNumber column

-- the fault of the first field that is not of its shape; the fields are counted from this number
abbrev pub first_misshapen_from : ℕ → List (Shape × List ℕ) → Option DbFaultKind
first_misshapen_from number [] = None
first_misshapen_from number (pair ∷ pairs) =
    if has_shape pair.0 pair.1 then first_misshapen_from (number + 1) pairs
    else Some (fault_of_shape pair.0 number)
