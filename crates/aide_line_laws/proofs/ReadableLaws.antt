-- Members whose values a reader gets back.
use Rattle.std.proofs.Common.{◌≡◌, ℕ, ℤ, pos, negsuc, zero, suc, ◌/◌, ◌%◌, ◌^◌, ◌<◌, true, false, ◌==◌, if◌then◌else◌, List, [], ◌∷◌, ◌++◌}
use Rattle.std.proofs.Common.{inl, inr, refl, sym, subst, arith, decimal, map, Option, Some, None}
use Rattle.std.specs.Prelude.{nat_abs, codes}
use Rattle.std.specs.Fmt.{digit_glyph, digits_onto, digits, signed_decimal}
use Rattle.std.specs.Str.{is_utf8}
use Rattle.std.proofs.lemmas.Bool.{cases_Bool, and_parts, and_from, lt-ltb}
use Rattle.std.proofs.lemmas.Bool.Decides.{nat_tests}
use Rattle.std.proofs.lemmas.Str.{IsUtf8-from_is_utf8}
use Rattle.json.specs.Print.{IsNumber}
use Rattle.json.proofs.Printed.Decimals.{IsNumber-decimal, IsNumber-signed_decimal}
use Rattle.aide_json.specs.Number.{count, integer, is_exact, number_as}
use Rattle.aide_json.specs.Value.{Member, Value, base16, number, text, text_member, text_or_null, values_of, word}
use Rattle.aide_line_laws.specs.ByteValues.{AreBytes, AreBytesIfAny}
use Rattle.aide_line_laws.specs.Readable.{AreReadable, EachIsReadable, HasReadable, IsReadable, are_plain, is_plain}

-- ---- numbers

plain_glyph : (n : ℕ) → is_plain (digit_glyph false (n % 10)) ≡ true
plain_glyph n = let small : n % 10 < 10 = omega arith in rw (lt-ltb (n % 10) 10 small) (grind (arith, nat_tests, small))

plain_onto : (k n : ℕ) (acc : List ℕ) → are_plain acc ≡ true → are_plain (digits_onto k 10 false n acc) ≡ true
plain_onto zero n acc e = e
plain_onto (suc k) n acc e = elim (cases_Bool (n / 10 == 0)) [
  | inl z ↦ rw z (and_from _ _ (plain_glyph n) e)
  | inr z ↦ rw z (plain_onto k (n / 10) _ (and_from _ _ (plain_glyph n) e))
]

plain_decimal : (n : ℕ) → are_plain (decimal n) ≡ true
unfolding digits
plain_decimal n = plain_onto 64 n [] refl

plain_signed : (z : ℤ) → are_plain (signed_decimal z) ≡ true
plain_signed (pos n) = plain_decimal n
plain_signed (negsuc n) = and_from (is_plain 45) _ refl (plain_decimal (suc n))

small_of : (n : ℕ) → is_exact n ≡ true → n < 2 ^ 62
small_of n e = grind (arith, nat_tests, e)

number_readable : (size : ℕ) (digits : List ℕ) (most : ℕ) → are_plain digits ≡ true
    → (is_exact size ≡ true → IsNumber digits) → IsReadable (number_as size digits) most
number_readable size digits most plain h = elim (cases_Bool (is_exact size)) [
  | inl e ↦ subst (λ b. IsReadable (if b then number digits else word digits) most) (sym e) (h e, plain)
  | inr e ↦ subst (λ b. IsReadable (if b then number digits else word digits) most) (sym e) plain
]

pub count_readable : (n most : ℕ) → IsReadable (count n) most
count_readable n most =
    number_readable n (decimal n) most (plain_decimal n) (λ e. let l = small_of n e in IsNumber-decimal n (omega arith))

signed_number : (z : ℤ) → is_exact (nat_abs z) ≡ true → IsNumber (signed_decimal z)
signed_number (pos n) e = let l = small_of n e in IsNumber-decimal n (omega arith)
signed_number (negsuc n) e = let l = small_of _ e in IsNumber-signed_decimal (negsuc n) (omega arith)

pub integer_readable : (z : ℤ) (most : ℕ) → IsReadable (integer z) most
integer_readable z most = number_readable (nat_abs z) (signed_decimal z) most (plain_signed z) (signed_number z)

-- ---- texts

plain_both : (t u : List ℕ) → are_plain t ≡ true → are_plain u ≡ true → are_plain (t ++ u) ≡ true
plain_both [] u e f = f
plain_both (x ∷ t) u e f = let p = and_parts (is_plain x) (are_plain t) e in and_from _ _ p.0 (plain_both t u p.1 f)

-- a text of bytes, in base 16 under another name if it is not UTF-8
pub text_readable : (name bytes : List ℕ) (most : ℕ) → are_plain name ≡ true → AreBytes bytes
    → HasReadable (text_member name bytes) most
text_readable name bytes most e h = elim (cases_Bool (is_utf8 bytes)) [
  | inl u ↦ subst (λ b. HasReadable (if b then (name, text bytes) else (name ++ codes "_hex", base16 bytes)) most) (sym u)
      (e, IsUtf8-from_is_utf8 bytes u)
  | inr u ↦ subst (λ b. HasReadable (if b then (name, text bytes) else (name ++ codes "_hex", base16 bytes)) most) (sym u)
      (plain_both name (codes "_hex") e refl, h)
]

pub text_or_null_readable : (name : List ℕ) (found : Option (List ℕ)) (most : ℕ) → are_plain name ≡ true
    → AreBytesIfAny found → HasReadable (text_or_null name found) most
text_or_null_readable name None most e h = (e, tt)
text_or_null_readable name (Some bytes) most e h = text_readable name bytes most e h

-- ---- lists

-- one more
pub also : {P Q : Type 0} → P → Q → P × Q
also p q = (p, q)

pub both_readable : (all others : List Member) (most : ℕ) → AreReadable all most → AreReadable others most
    → AreReadable (all ++ others) most
both_readable [] others most h k = k
both_readable (named ∷ all) others most h k = (h.0, both_readable all others most h.1 k)

pub each_readable : {X : Type 0} (of : X → Value) (xs : List X) (most : ℕ) → ((x : X) → IsReadable (of x) most)
    → EachIsReadable (values_of (map of xs)) most
each_readable of [] most h = tt
each_readable of (x ∷ xs) most h = (h x, each_readable of xs most h)
