-- The members of the forms that one attribute alone has.
use Rattle.std.proofs.Common.{◌≡◌, ◌∙◌, List, ℕ, refl, sym, ap, ap₂}
use Rattle.std.specs.Prelude.{Option, Some, None, option_map}
use Rattle.aide_attr.proofs.FormLemmas.{kind_alone, link_alone}
use Rattle.aide_attr.specs.Attr.{detail_name_of, form_of}
use Rattle.aide_attr.specs.declared.attr.Attr.{Attr}
use Rattle.aide_attr.specs.declared.attr.Attr.TheVariants.{Ftype, Lname}
use Rattle.aide_attr.specs.declared.form.Form.TheVariants.{Kind, Link}
use Rattle.aide_entry.proofs.FormLaws.{kind_answers, link_answers}
use Rattle.aide_fields.specs.Attributes.{Value, type_in, link_in, type_value, link_value}
use Rattle.aide_entry.specs.Entry.{attributes_of}
use Rattle.aide_entry.specs.declared.column.Column.{Column}
use Rattle.aide_json.specs.Value.{print_member, text_or_null, word}
use Rattle.aide_line_text.specs.Attribute.{value_member}
use Rattle.aide_line_text.specs.code.Parts.{attribute_text}
use Rattle.aide_text.specs.ValueText.{option_text, type_text}

mapped : {X Y : Type 0} (text : Y → List ℕ) (of : X → Y) (found : Option X)
    → option_text (λ x. text (of x)) found ≡ option_text text (option_map of found)
mapped text of None = refl
mapped text of (Some x) = refl

module _ (name : List ℕ) (a : Attr) (columns : List Column) (line : List ℕ) (n : name ≡ detail_name_of a) where
  at_value : {X : Type 0} (of : X → Value) (found : Option X) → attributes_of columns line a ≡ option_map of found
      → option_text (λ x. print_member (value_member name (of x))) found ≡ attribute_text (attributes_of columns line) a
  at_value of found kept =
      mapped (λ value. print_member (value_member name value)) of found
      ∙ ap₂ (λ m o. option_text (λ value. print_member (value_member m value)) o) n (sym kept)

  -- the text of an attribute of such a form is that of the attribute that alone has it
  pub kind_at : form_of a ≡ Kind
      → option_text (λ kind. print_member (name, word (type_text kind))) (type_in (attributes_of columns line Ftype))
      ≡ attribute_text (attributes_of columns line) a
  kind_at e =
      ap (λ b. option_text (λ kind. print_member (name, word (type_text kind))) (type_in (attributes_of columns line b)))
      (sym (kind_alone a e))
      ∙ at_value type_value (type_in (attributes_of columns line a)) (kind_answers columns line a e)

  pub link_at : form_of a ≡ Link
      → option_text (λ target. print_member (text_or_null name target)) (link_in (attributes_of columns line Lname))
      ≡ attribute_text (attributes_of columns line) a
  link_at e =
      ap (λ b. option_text (λ target. print_member (text_or_null name target)) (link_in (attributes_of columns line b)))
      (sym (link_alone a e))
      ∙ at_value link_value (link_in (attributes_of columns line a)) (link_answers columns line a e)
