-- The texts of the forms that one attribute alone has.
use Rattle.std.proofs.Common.{◌≡◌, ◌∙◌, Bool, sym, ap}
use Rattle.aide_attr.proofs.FormLemmas.{kind_alone, link_alone}
use Rattle.aide_attr.specs.Attr.{form_of}
use Rattle.aide_attr.specs.declared.attr.Attr.{Attr}
use Rattle.aide_attr.specs.declared.attr.Attr.TheVariants.{Ftype, Lname}
use Rattle.aide_attr.specs.declared.form.Form.TheVariants.{Kind, Link}
use Rattle.aide_fields.specs.Attributes.{Attributes, type_in, link_in}
use Rattle.aide_text.specs.ValueText.{option_text, type_text, printed_link, text_at, value_in}

-- the text of an attribute of such a form is that of the attribute that alone has it
pub kind_at : (base16 : Bool) (a : Attr) (attributes : Attributes) → form_of a ≡ Kind
    → option_text type_text (type_in (attributes Ftype)) ≡ text_at base16 a (attributes a)
kind_at base16 a attributes e =
    ap (λ x. option_text type_text (type_in (attributes x))) (sym (kind_alone a e)) ∙ ap (λ form. value_in base16 form (attributes a))
    (sym e)

pub link_at : (base16 : Bool) (a : Attr) (attributes : Attributes) → form_of a ≡ Link
    → option_text printed_link (link_in (attributes Lname)) ≡ text_at base16 a (attributes a)
link_at base16 a attributes e =
    ap (λ x. option_text printed_link (link_in (attributes x))) (sym (link_alone a e)) ∙ ap (λ form. value_in base16 form (attributes a))
    (sym e)
