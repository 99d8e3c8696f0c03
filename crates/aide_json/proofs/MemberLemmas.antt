-- Members by whether a text is UTF-8, and numbers by whether each reader keeps them.
use Rattle.std.proofs.Common.{◌≡◌, ℕ, ◌/◌, ◌%◌, ◌↔◌, Bool, true, false, if◌then◌else◌, List, [], ◌∷◌, ◌++◌, option_to_list, Option, None}
use Rattle.std.proofs.Common.{codes, IsTrue, IsUtf8, refl, sym, ap, ◌∙◌}
use Rattle.std.proofs.lemmas.Str.{IsUtf8-from_is_utf8, is_utf8-from_IsUtf8}
use Rattle.std.specs.Str.{is_utf8}
use Rattle.hex.specs.Hex.{encode_lower, encode_with}
use Rattle.aide_json.specs.Json.{hex_digit, quoted}
use Rattle.aide_json.specs.Number.{is_exact, number_as}
use Rattle.aide_json.specs.Value.{base16, number, print, print_member, text, text_member, word}

not_utf8 : (bytes : List ℕ) (b : Bool) → is_utf8 bytes ≡ b → (IsUtf8 bytes → ⊥) → b ≡ false
not_utf8 bytes true e wrong = absurd (wrong (IsUtf8-from_is_utf8 bytes e))
not_utf8 bytes false e wrong = refl

pub as_text : (name bytes : List ℕ) → IsUtf8 bytes → print_member (name, text bytes) ≡ print_member (text_member name bytes)
as_text name bytes u =
    ap (λ (b : Bool). print_member (if b then (name, text bytes) else (name ++ codes "_hex", base16 bytes)))
    (sym (is_utf8-from_IsUtf8 bytes u))

pub as_base16 : (name bytes : List ℕ) → (IsUtf8 bytes → ⊥)
    → print_member (name ++ codes "_hex", base16 bytes) ≡ print_member (text_member name bytes)
as_base16 name bytes wrong =
    ap (λ (b : Bool). print_member (if b then (name, text bytes) else (name ++ codes "_hex", base16 bytes)))
    (sym (not_utf8 bytes (is_utf8 bytes) refl wrong))

false_true : false ≡ true → ⊥
false_true e = cc

pub is_not : (r : Bool) (P : Type 0) → (IsTrue r ↔ P) → r ≡ false → P → ⊥
is_not r P iff e p = false_true (sym e ∙ iff.1 p)

pub hex_none : (pending : Option ℕ) (bytes : List ℕ) → pending ≡ None → bytes ≡ [] → option_to_list pending ++ encode_lower bytes ≡ []
unfolding encode_with
hex_none pending bytes e f = ap (λ p. option_to_list p ++ encode_lower bytes) e ∙ ap encode_lower f

pub hex_some : (pending : Option ℕ) (before after : List ℕ) (c x y : ℕ) → pending ≡ None → before ≡ c ∷ after → x ≡ hex_digit (c / 16) → y
    ≡ hex_digit (c % 16)
    → option_to_list pending ++ encode_lower before ≡ x ∷ y ∷ encode_lower after
unfolding encode_with
hex_some pending before after c x y e f p q = cc

pub as_digits : (size : ℕ) (digits : List ℕ) → is_exact size ≡ true → digits ≡ print (number_as size digits)
as_digits size digits e = sym (ap (λ (b : Bool). print (if b then number digits else word digits)) e)

pub as_quoted : (size : ℕ) (digits : List ℕ) → is_exact size ≡ false → quoted digits ≡ print (number_as size digits)
as_quoted size digits e = sym (ap (λ (b : Bool). print (if b then number digits else word digits)) e)
