-- The code's row of an attribute.
use Rattle.std.specs.Prelude.{ℕ, ◌≡◌, List, Option}
use Rattle.aide_attr.specs.declared.attr.Attr.{Attr}
use Rattle.aide_attr.specs.declared.attr.Row.{Row}
use Rattle.aide_attr.specs.declared.form.Form.{Form}
use Rattle.aide_attr.specs.Attr.{name_of, detail_name_of, column_of, bit_of, slot_of, form_of}

-- the code's row has these parts
pub record HasParts (its_name its_detail_name its_column : List ℕ) (its_bit : Option ℕ)
    (its_slot : ℕ) (its_form : Form) (r : Row) : Type 0 where
  pub name : r.name.now ≡ its_name
  pub detail_name : r.detail_name.now ≡ its_detail_name
  pub column : r.column.now ≡ its_column
  pub bit : r.bit ≡ its_bit
  pub slot : r.slot ≡ its_slot
  pub form : r.form ≡ its_form

-- the code's row has what the table has at the attribute
abbrev pub IsRow : Attr → Row → Type 0
IsRow a r =
    HasParts (name_of a) (detail_name_of a) (column_of a) (bit_of a) (slot_of a) (form_of a) r
