-- A field that is known to be a time: its length, its first symbol and its padding tell whether it is one of ten digits.
use Rattle.std.proofs.Common.{◌≡◌, ◌∙◌, ℕ, ◌+◌, ◌-◌, ◌*◌, ◌/◌, ◌%◌, ◌<◌, ◌≤◌, ◌⊎◌, inl, inr, List, [], ◌∷◌, ◌++◌, length, drop}
use Rattle.std.proofs.Common.{slice_index, refl, sym, ap, zero, suc, arith}
use Rattle.std.proofs.Common.{true, false, Bool, not, Option, Some, None, rules}
use Rattle.std.specs.Prelude.{is_some, ◌==◌, replicate}
use Rattle.std.specs.List.{list_all}
use Rattle.std.proofs.lemmas.Bool.{and_parts, eqb-true, leb-true, ltb-true, eq-eqb, le-leb}
use Rattle.std.proofs.lemmas.List.{drop_more, length-append, length-drop, length-replicate, take-append-drop}
use Rattle.std.proofs.lemmas.List.Folds.{list_all-append}
use Rattle.base64.proofs.EngineFacts.{decode_of_strict}
use Rattle.base64.proofs.RoundTrip.{length-encode_symbols, drop_encoded}
use Rattle.base64.proofs.Tables.{all_below_at}
use Rattle.base64.specs.Engines.{standard}
use Rattle.base64.specs.GeneralPurpose.{IsBytes, decode_of, decoded_of}
use Rattle.base64.specs.Rfc4648.{encode_symbols, padding_len, unpadded_len}
use Rattle.aide_fields.specs.Numbers.{is_digit, natural_of, number_of}
use Rattle.aide_fields.specs.Values.{number_in_text, time_of}
use Rattle.aide_fields.specs.code.TimeDigits.{tells_ten}
use Rattle.aide_fields.proofs.FieldForms.{result_some}
use Rattle.aide_fields.proofs.NumberLemmas.{natural_no_digits, number_plain}
use Rattle.aide_fields.proofs.TenDigits.{Ten, last_four, no_number_first}

symbol_test : (v : ℕ) → v < 64 → (slice_index standard.encode_table v == 61) ≡ false
symbol_test v small = not_true (slice_index standard.encode_table v == 61)
    (all_below_at (λ k. not (slice_index standard.encode_table k == 61)) 64 v refl small)
  where
    not_true : (b : Bool) → not b ≡ true → b ≡ false
    not_true true e = cc
    not_true false e = refl

no_padding : (v : ℕ) → v < 64 → slice_index standard.encode_table v ≡ 61 → ⊥
no_padding v small e = let both : true ≡ false = sym (eq-eqb (slice_index standard.encode_table v) 61 e) ∙ symbol_test v small in cc

-- the last group of a text, whose third byte is the padding
last_alone : (rest x : List ℕ) (a b d : ℕ) → (length rest ≡ 1) ⊎ ((length rest ≡ 2) ⊎ (length rest ≡ 3))
    → list_all (is_digit 10) rest ≡ true
    → a ∷ b ∷ 61 ∷ d ∷ [] ≡ encode_symbols standard.encode_table rest ++ x → length rest ≡ 1
unfolding encode_symbols
last_alone [] x a b d size digits e = elim size
    [ inl h ↦ h | inr h ↦ elim h [ inl k ↦ absurd (omega (arith, k)) | inr k ↦ absurd (omega (arith, k)) ] ]
last_alone (f ∷ []) x a b d size digits e = refl
last_alone (f ∷ g ∷ []) x a b d size digits e =
    absurd (no_padding (g % 16 * 4) (omega arith) (sym (ap (λ xs. slice_index xs 2) e)))
last_alone (f ∷ g ∷ h ∷ []) x a b d size digits e = search (rules, and_parts, ltb-true, no_padding)
last_alone (f ∷ g ∷ h ∷ i ∷ rest) x a b d size digits e = elim size
    [ inl k ↦ absurd (omega (arith, k)) | inr k ↦ elim k [ inl l ↦ absurd (omega (arith, l)) | inr l ↦ absurd (omega (arith, l)) ] ]

first_symbol : (first : ℕ) (more x : List ℕ)
    → slice_index (encode_symbols standard.encode_table (first ∷ more) ++ x) 0 ≡ slice_index standard.encode_table (first / 4)
unfolding encode_symbols
first_symbol first [] x = refl
first_symbol first (f ∷ []) x = refl
first_symbol first (f ∷ g ∷ more) x = refl

digits_some : (ds : List ℕ) → is_some (natural_of ds) ≡ true → list_all (is_digit 10) ds ≡ true
unfolding natural_of
digits_some ds some = search (rules, natural_no_digits)

digits_behind_nine : (text : List ℕ) → list_all (is_digit 10) text ≡ true → list_all (is_digit 10) (drop 9 text) ≡ true
digits_behind_nine text digits = search (rules, and_parts, list_all-append, take-append-drop)

rest_size : (n k : ℕ) → 10 ≤ n → n ≤ 12 → k ≡ n - 9 → (k ≡ 1) ⊎ ((k ≡ 2) ⊎ (k ≡ 3))
rest_size n zero low high e = absurd (omega (arith, low, e))
rest_size n (suc zero) low high e = inl refl
rest_size n (suc (suc zero)) low high e = inr (inl refl)
rest_size n (suc (suc (suc zero))) low high e = inr (inr refl)
rest_size n (suc (suc (suc (suc k)))) low high e = absurd (omega (arith, high, e))

module _ (s : List ℕ) (bytes : IsBytes s) (size : length s ≡ 16) (high : 77 ≤ slice_index s 0) (pad : slice_index s 14 ≡ 61) where
  text_ten : (text : List ℕ) → decoded_of standard s ≡ Some text → is_some (number_of text) ≡ true → Ten s
  unfolding decoded_of number_of
  text_ten [] decoded some = cc
  text_ten (first ∷ more) decoded some =
      let text : List ℕ = first ∷ more in
      let x : List ℕ = replicate (padding_len (length text)) 61 in
      let is : s ≡ encode_symbols standard.encode_table text ++ x =
      decode_of_strict standard s text (refl, refl) bytes (result_some (decode_of standard s) text decoded) in
      let lead : slice_index s 0 ≡ slice_index standard.encode_table (first / 4) = ap (λ xs. slice_index xs 0) is
      ∙ first_symbol first more x in
      let unsigned : first ≡ 45 → ⊥ = λ e. let low : slice_index s 0 ≡ 76 = lead ∙ rw e refl in absurd (omega (arith, low, high)) in
      let digits : list_all (is_digit 10) text ≡ true = digits_some text (sym (number_plain text more first refl unsigned) ∙ some) in
      let sizes : 16 ≡ unpadded_len (length text) + padding_len (length text) =
      sym size ∙ ap (λ (xs : List ℕ). length xs) is ∙ length-append (encode_symbols standard.encode_table text) x
      ∙ ap (λ n. n + length x) (length-encode_symbols standard.encode_table text)
      ∙ ap (λ n. unpadded_len (length text) + n) (length-replicate (padding_len (length text)) 61) in
      let least : 10 ≤ length text = omega (arith, sizes) in
      let most : length text ≤ 12 = omega (arith, sizes) in
      let behind : drop 12 s ≡ encode_symbols standard.encode_table (drop 9 text) ++ x = ap (drop 12) is
      ∙ drop_encoded standard.encode_table text x 3 (omega (arith, least)) in
      let group : slice_index s 12 ∷ slice_index s 13 ∷ 61 ∷ slice_index s 15 ∷ []
      ≡ encode_symbols standard.encode_table (drop 9 text) ++ x =
      ap (λ c. slice_index s 12 ∷ slice_index s 13 ∷ c ∷ slice_index s 15 ∷ []) (sym pad) ∙ sym (last_four s size) ∙ behind in
      let rest_long : length (drop 9 text) ≡ length text - 9 = length-drop 9 text in
      let alone : length (drop 9 text) ≡ 1 = last_alone (drop 9 text) x (slice_index s 12) (slice_index s 13) (slice_index s 15)
      (rest_size (length text) (length (drop 9 text)) least most rest_long) (digits_behind_nine text digits) group in
      record {
        text = text;
        decoded = decoded;
        digits = digits;
        long = omega (arith, alone, rest_long, least);
        size = size;
        plain = no_number_first s (drop 1 s) (slice_index s 0) (drop_more s 0 0 (omega (arith, size))) high;
      }

  by_decoded : (o : Option (List ℕ)) → decoded_of standard s ≡ o → is_some (number_in_text o) ≡ true → Ten s
  by_decoded None e some = cc
  by_decoded (Some text) e some = text_ten text e some

  known_ten : is_some (time_of s) ≡ true → Ten s
  unfolding time_of
  known_ten some = search (rules, by_decoded, no_number_first, drop_more, le-leb)

-- a time whose length, first byte and padding are those of ten digits
pub told_ten : (s : List ℕ) → IsBytes s → is_some (time_of s) ≡ true → tells_ten s ≡ true → Ten s
unfolding tells_ten
told_ten s bytes some is = search (rules, and_parts, known_ten, eqb-true, leb-true)
