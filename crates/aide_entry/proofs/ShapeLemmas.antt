-- The shapes of columns, and the field `0`, which is of any shape.
use Rattle.std.proofs.Common.{◌≡◌, ℕ, ◌+◌, ◌<◌, ◌≤◌, List, [], ◌∷◌, refl, ap, sym, ◌∙◌, true, map, length, drop}
use Rattle.std.proofs.Common.{min, get_or, false, rules}
use Rattle.std.proofs.lemmas.Bool.{cases_lt}
use Rattle.std.proofs.lemmas.List.{drop_all, drop_more}
use Rattle.std.specs.Prelude.{codes, None, is_some, ◌==◌}
use Rattle.std.specs.List.{zip}
use Rattle.std.specs.Cmp.Lexicographic.{same_text}
use Rattle.aide_attr.specs.Attr.{form_of}
use Rattle.aide_attr.specs.declared.form.Form.{Form}
use Rattle.aide_attr.specs.declared.form.Form.TheVariants.{Kind}
use Rattle.aide_fields.specs.Numbers.{mode_of, number_of, bits_of, natural_of}
use Rattle.aide_fields.specs.Values.{time_of, is_nought, is_field, IsTimeOrNothing}
use Rattle.aide_entry.specs.Entry.{fault_of_form}
use Rattle.std.specs.Str.{bytes_eq}
use Rattle.aide_entry.specs.Entry.{has_form, first_bad_from, fault_of_column}
use Rattle.aide_entry.specs.code.Shapes.{shape_of, shape_of_form, has_shape, fault_of_shape, first_misshapen_from}
use Rattle.aide_entry.specs.declared.column.Column.{Column}
use Rattle.aide_entry.specs.declared.column.Column.TheVariants.{Of}
use Rattle.aide_fields.specs.Spans.{field_at, fields_at}
use Rattle.aide_fields.specs.declared.span.Span.{Span}
use Rattle.aide_entry.specs.declared.shape.Shape.{Shape}
use Rattle.aide_entry.specs.declared.shape.Shape.TheVariants.{Free}

form_shaped : (form : Form) (field : List ℕ) → has_shape (shape_of_form form) field ≡ is_field form field
form_shaped Kind field = refl
form_shaped _ field = refl

form_fault : (form : Form) (n : ℕ) → fault_of_shape (shape_of_form form) n ≡ fault_of_form form n
form_fault Kind n = refl
form_fault _ n = refl

-- a field is of its column's shape where it has the column's form
shaped : (c : Column) (field : List ℕ) → has_shape (shape_of c) field ≡ has_form c field
shaped (Of attr) field = form_shaped (form_of attr) field
shaped _ field = refl

fault_shaped : (c : Column) (n : ℕ) → fault_of_shape (shape_of c) n ≡ fault_of_column c n
fault_shaped (Of attr) n = form_fault (form_of attr) n
fault_shaped _ n = refl

-- the first bad field is the first one that is not of its column's shape
pub bad_by_shapes : (n : ℕ) (cs : List Column) (fs : List (List ℕ))
    → first_misshapen_from n (zip (map shape_of cs) fs) ≡ first_bad_from n (zip cs fs)
bad_by_shapes n [] fs = refl
bad_by_shapes n (c ∷ cs) [] = refl
bad_by_shapes n (c ∷ cs) (f ∷ fs) = rw (shaped c f, fault_shaped c n, bad_by_shapes (n + 1) cs fs) refl

nought_shaped : (shape : Shape) → has_shape shape (codes "0") ≡ true
unfolding mode_of number_of bits_of natural_of time_of
nought_shaped Free = refl
nought_shaped _ = refl

-- the field `0` is of any shape
pub nought_is_shaped : (shape : Shape) (field : List ℕ) → is_nought field ≡ true → has_shape shape field ≡ true
nought_is_shaped shape field e = ap (has_shape shape) (same_text field (codes "0") (sym e)) ∙ nought_shaped shape

-- a field that is of its shape is passed over
pub shaped_more : (n : ℕ) (line : List ℕ) (shapes : List Shape) (spans : List Span) (index : ℕ) (shape : Shape) (span : Span)
    → (field : List ℕ) → index < length shapes → index < length spans
    → field ≡ field_at line (get_or spans index span) → has_shape (get_or shapes index shape) field ≡ true
    → first_misshapen_from (n + 1) (zip (drop (index + 1) shapes) (fields_at line (drop (index + 1) spans)))
    ≡ first_misshapen_from n (zip (drop index shapes) (fields_at line (drop index spans)))
shaped_more n line shapes spans index shape span field lt less same is = search (rules, drop_more)

-- no field is left to look at
none_of_no_field : (n : ℕ) (shapes : List Shape) → first_misshapen_from n (zip shapes []) ≡ None
none_of_no_field n [] = refl
none_of_no_field n (shape ∷ shapes) = refl

-- where all shapes or all spans were looked at, no field is out of its shape
pub all_shaped : (n : ℕ) (line : List ℕ) (shapes : List Shape) (spans : List Span) (index : ℕ)
    → min (length shapes) (length spans) ≤ index
    → first_misshapen_from n (zip (drop index shapes) (fields_at line (drop index spans))) ≡ None
all_shaped n line shapes spans index le = search (rules, cases_lt, drop_all, none_of_no_field)

-- a field that is written like a time is one too
pub time_beside : (field time : List ℕ) → IsTimeOrNothing time → false ≡ (length time == 0) → true ≡ bytes_eq field time
    → true ≡ is_some (time_of field)
time_beside field [] known some same = cc
time_beside field (x ∷ xs) known some same = rw (same_text field (x ∷ xs) same) (sym (known refl))
