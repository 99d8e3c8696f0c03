-- What fields mean, step by step.
use Rattle.std.proofs.Common.{◌≡◌, ℕ, List, refl, sym, ◌∙◌, true, false, if◌then◌else◌, Bool, Option, Some, None}
use Rattle.std.proofs.Common.{rules}
use Rattle.std.specs.Prelude.{option_map}
use Rattle.aide_attr.specs.declared.file_type.FileType.{FileType}
use Rattle.aide_attr.specs.Attr.{bit_of, holder_of}
use Rattle.aide_attr.specs.declared.attr.Attr.{Attr}
use Rattle.aide_fields.specs.Text.{fields}
use Rattle.aide_entry.specs.Fields.{field_under, is_bits, is_of}
use Rattle.aide_entry.specs.Entry.{field_of, is_on, attributes_of}
use Rattle.aide_entry.specs.code.FirstColumns.{bits_in, is_set}
use Rattle.aide_entry.proofs.FirstColumnLemmas.{set_is_on}
use Rattle.aide_entry.specs.declared.column.Column.{Column}
use Rattle.aide_fields.specs.Attributes.{type_value, type_in}

pub types_mapped : (o : Option FileType) → type_in (option_map type_value o) ≡ o
types_mapped None = refl
types_mapped (Some kind) = refl

-- the field of an attribute, from the parts
pub field_on : (cs : List Column) (line : List ℕ) (attr holder : Attr) (bit bits : Option ℕ) (field : Option (List ℕ))
    → holder ≡ holder_of attr → bit ≡ bit_of attr → bits ≡ bits_in cs line → is_set bit bits ≡ true
    → field ≡ field_under (is_of holder) cs (fields line) → field ≡ field_of cs line attr
field_on cs line attr holder bit bits field h b f on is =
    let t : is_on (bit_of attr) (field_under is_bits cs (fields line)) ≡ true =
    sym (set_is_on (bit_of attr) (field_under is_bits cs (fields line))) ∙ rw (← b, ← f) on in
    is ∙ rw (h, t) refl

pub field_off : (cs : List Column) (line : List ℕ) (attr : Attr) (bit bits : Option ℕ)
    → bit ≡ bit_of attr → bits ≡ bits_in cs line → is_set bit bits ≡ false → None ≡ field_of cs line attr
field_off cs line attr bit bits b f off = search (rules, set_is_on)

none_either : (b : Bool) (field : Option (List ℕ)) → None ≡ field → None ≡ (if b then field else None)
none_either true field none = none
none_either false field none = refl

-- an attribute without a column has no field
pub field_none : (cs : List Column) (line : List ℕ) (attr holder : Attr) (field : Option (List ℕ)) → holder ≡ holder_of attr
    → field ≡ None → field ≡ field_under (is_of holder) cs (fields line) → None ≡ field_of cs line attr
field_none cs line attr holder field h none is =
    let t : field_under (is_of (holder_of attr)) cs (fields line) ≡ None = rw h at (sym is ∙ none) in
    none_either (is_on (bit_of attr) (field_under is_bits cs (fields line))) (field_under (is_of (holder_of attr)) cs (fields line)) (sym t)

-- an attribute without a column has no value
pub lacking : (cs : List Column) (line : List ℕ) (attr : Attr) → field_under (is_of (holder_of attr)) cs (fields line) ≡ None
    → attributes_of cs line attr ≡ None
lacking cs line attr none = search rules
