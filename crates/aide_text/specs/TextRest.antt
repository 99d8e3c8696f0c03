-- The bytes that the text of a value still hands out.
use Rattle.std.specs.Prelude.{ℕ, List}
use Rattle.aide_text.specs.PrintedRest.{printed_rest}
use Rattle.aide_text.specs.declared.value.ValueText.{ValueText}
use Rattle.aide_text.specs.declared.value.ValueText.TheVariants.{Short, Lent, Link, Field}

-- the bytes that are still to come, for each kind of text
abbrev pub text_rest : {S L F : Type 0} → (S → List ℕ) → (L → List ℕ) → (F → List ℕ)
    → ValueText S L F → List ℕ
text_rest short_rest link_rest field_rest (Short text) = short_rest text
text_rest short_rest link_rest field_rest (Lent text) = field_rest text
text_rest short_rest link_rest field_rest (Link printed) = printed_rest link_rest printed
text_rest short_rest link_rest field_rest (Field printed) = printed_rest field_rest printed
