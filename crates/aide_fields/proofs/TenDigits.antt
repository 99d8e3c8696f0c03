-- A field of ten digits: it is a time, and two different ones are different times.
use Rattle.std.proofs.Common.{◌≡◌, ◌∙◌, ℕ, ◌+◌, ◌-◌, ◌*◌, ◌^◌, ◌<◌, ◌≤◌, List, [], ◌∷◌, ◌++◌, length, drop, slice_index, refl, sym, ap}
use Rattle.std.proofs.Common.{subst, zero, suc, arith}
use Rattle.std.proofs.Common.{true, false, not, nat_le, nat_lt, Some, None, rules}
use Rattle.std.specs.Prelude.{is_some, ◌==◌, pos}
use Rattle.std.specs.List.{list_all}
use Rattle.std.specs.Ordering.{int_eq}
use Rattle.std.specs.Str.{bytes_eq}
use Rattle.std.specs.Io.KnownBytes.{prepend_known}
use Rattle.std.proofs.lemmas.Bool.{and_parts, eqb-true, leb-true, ne_eqb, le-leb, le-ltb}
use Rattle.std.proofs.lemmas.Bool.Decides.{Decides-int_eq}
use Rattle.std.proofs.lemmas.List.{append-nil, drop_more, drop_all, length-append}
use Rattle.std.proofs.lemmas.List.Folds.{list_all-append}
use Rattle.std.proofs.lemmas.Slice.Eq.{bytes_eq-Decides}
use Rattle.std.proofs.Math.Nat.{pow-le-pow_right}
use Rattle.base64.proofs.EngineFacts.{decode_of_strict}
use Rattle.base64.proofs.Streams.{decoded_of-groups}
use Rattle.base64.specs.Decode.{groups_error, groups_bytes}
use Rattle.base64.specs.Engines.{standard}
use Rattle.base64.specs.GeneralPurpose.{IsBytes, decode_of, decoded_of, encode_of}
use Rattle.aide_fields.specs.Lent.{differs_by, same_number}
use Rattle.aide_fields.specs.Numbers.{is_digit, positional, natural_of, number_of}
use Rattle.aide_fields.specs.Values.{begins_number, time_of}
use Rattle.aide_fields.specs.code.TimeDigits.{are_three, is_one, are_ten}
use Rattle.aide_fields.proofs.DigitWeights.{Three, first_high, three, one}
use Rattle.aide_fields.proofs.FieldForms.{result_some}
use Rattle.aide_fields.proofs.NumberLemmas.{natural_is, positional_below}

abbrev table : List ℕ
table = standard.decode_table

-- the groups of three digits
groups_three : (s : List ℕ) → Three (slice_index s 0) (slice_index s 1) (slice_index s 2) (slice_index s 3)
    → Three (slice_index s 4) (slice_index s 5) (slice_index s 6) (slice_index s 7)
    → Three (slice_index s 8) (slice_index s 9) (slice_index s 10) (slice_index s 11)
    → (groups_error table s 3 ≡ None) × (list_all (is_digit 10) (groups_bytes table s 3) ≡ true) × (length (groups_bytes table s 3) ≡ 9)
unfolding groups_error groups_bytes
groups_three s p q r = search (rules, list_all-append)

-- ---- a field of ten digits

pub last_four : (s : List ℕ) → length s ≡ 16
    → drop 12 s ≡ slice_index s 12 ∷ slice_index s 13 ∷ slice_index s 14 ∷ slice_index s 15 ∷ []
last_four s long =
    drop_more s 12 0 (omega arith)
    ∙ ap (λ xs. slice_index s 12 ∷ xs) (drop_more s 13 0 (omega arith))
    ∙ ap (λ xs. slice_index s 12 ∷ slice_index s 13 ∷ xs) (drop_more s 14 0 (omega arith))
    ∙ ap (λ xs. slice_index s 12 ∷ slice_index s 13 ∷ slice_index s 14 ∷ xs) (drop_more s 15 0 (omega arith))
    ∙ ap (λ xs. slice_index s 12 ∷ slice_index s 13 ∷ slice_index s 14 ∷ slice_index s 15 ∷ xs) (drop_all 16 s (omega arith))

-- the text of ten digits that a field is base64 of
pub record Ten (s : List ℕ) : Type 0 where
  pub text : List ℕ
  pub decoded : decoded_of standard s ≡ Some text
  pub digits : list_all (is_digit 10) text ≡ true
  pub long : length text ≡ 10
  pub size : length s ≡ 16
  pub plain : begins_number s ≡ false

pub no_number_first : (s more : List ℕ) (first : ℕ) → s ≡ first ∷ more → 77 ≤ first → begins_number s ≡ false
no_number_first s more first e high = search (rules, le-ltb, ne_eqb)

pub ten : (s : List ℕ) → IsBytes s → are_ten s ≡ true → Ten s
unfolding are_ten
ten s bytes is =
    let p0 = and_parts (length s == 16) _ is in
    let p1 = and_parts (are_three (slice_index s 0) (slice_index s 1) (slice_index s 2) (slice_index s 3)) _ p0.1 in
    let p2 = and_parts (are_three (slice_index s 4) (slice_index s 5) (slice_index s 6) (slice_index s 7)) _ p1.1 in
    let p3 = and_parts (are_three (slice_index s 8) (slice_index s 9) (slice_index s 10) (slice_index s 11))
    (is_one (slice_index s 12) (slice_index s 13) (slice_index s 14) (slice_index s 15)) p2.1 in
    let size : length s ≡ 16 = eqb-true (length s) 16 p0.0 in
    let groups = groups_three s
    (three (slice_index s 0) (slice_index s 1) (slice_index s 2) (slice_index s 3) (bytes 0) (bytes 1) (bytes 2) (bytes 3) p1.0)
    (three (slice_index s 4) (slice_index s 5) (slice_index s 6) (slice_index s 7) (bytes 4) (bytes 5) (bytes 6) (bytes 7) p2.0)
    (three (slice_index s 8) (slice_index s 9) (slice_index s 10) (slice_index s 11) (bytes 8) (bytes 9) (bytes 10) (bytes 11) p3.0) in
    let last = one (slice_index s 12) (slice_index s 13) (slice_index s 14) (slice_index s 15) (bytes 12) (bytes 13) p3.1 in
    let whole : decoded_of standard s ≡ prepend_known (groups_bytes table s 3) (decoded_of standard (drop 12 s)) =
    rw (append-nil s, append-nil (drop 12 s)) at (decoded_of-groups standard s [] 3 (omega (arith, size)) groups.0) in
    record {
      text = groups_bytes table s 3 ++ last.0 ∷ [];
      decoded = whole ∙ ap (λ xs. prepend_known (groups_bytes table s 3) (decoded_of standard xs)) (last_four s size)
          ∙ ap (prepend_known (groups_bytes table s 3)) last.1;
      digits = list_all-append (is_digit 10) (groups_bytes table s 3) (last.0 ∷ []) ∙ rw (groups.1, last.2) refl;
      long = length-append (groups_bytes table s 3) (last.0 ∷ []) ∙ omega (arith, groups.2);
      size = size;
      plain = no_number_first s (drop 1 s) (slice_index s 0) (drop_more s 0 0 (omega (arith, size)))
          (first_high (slice_index s 0) (slice_index s 1) (slice_index s 2) (slice_index s 3) (bytes 0) (bytes 1) (bytes 2) (bytes 3) p1.0);
    }

-- ---- the seconds of ten digits

number_digits : (text more : List ℕ) (first : ℕ) → text ≡ first ∷ more → list_all (is_digit 10) text ≡ true → length text ≤ 19
    → number_of text ≡ Some (pos (positional 10 text))
unfolding number_of natural_of
number_digits text more first e digits short = search (rules, pow-le-pow_right, natural_is, positional_below, and_parts, leb-true, ne_eqb)

some_first : (text : List ℕ) → length text ≡ 10 → text ≡ slice_index text 0 ∷ drop 1 text
some_first text long = drop_more text 0 0 (omega (arith, long))

pub ten_time : (s : List ℕ) (t : Ten s) → time_of s ≡ Some (pos (positional 10 t.text))
unfolding time_of
ten_time s t =
    let number = number_digits t.text (drop 1 t.text) (slice_index t.text 0) (some_first t.text t.long) t.digits (omega (arith, t.long)) in
    rw (t.plain, le-leb (length s) 44 (omega (arith, t.size)), t.decoded, number) refl

pub ten_is_time : (s : List ℕ) → IsBytes s → are_ten s ≡ true → true ≡ is_some (time_of s)
ten_is_time s bytes is = sym (ap is_some (ten_time s (ten s bytes is)))

-- ---- two such fields

same_parts : (a b p r q : ℕ) → r < p → q < p → a * p + r ≡ b * p + q → (a ≡ b) × (r ≡ q)
same_parts zero zero p r q h k e = (refl, omega (arith, e))
same_parts zero (suc b) p r q h k e = absurd (omega (arith, h, e))
same_parts (suc a) zero p r q h k e = absurd (omega (arith, k, e))
same_parts (suc a) (suc b) p r q h k e =
    let rest = same_parts a b p r q h k (omega (arith, e)) in (ap suc rest.0, rest.1)

-- equally many digits that write one number are the same
same_digits : (xs ys : List ℕ) → list_all (is_digit 10) xs ≡ true → list_all (is_digit 10) ys ≡ true → length xs ≡ length ys
    → positional 10 xs ≡ positional 10 ys → xs ≡ ys
same_digits [] [] p q long e = refl
same_digits [] (y ∷ ys) p q long e = absurd (omega (arith, long))
same_digits (x ∷ xs) [] p q long e = absurd (omega (arith, long))
same_digits (x ∷ xs) (y ∷ ys) p q long e =
    let px = and_parts (is_digit 10 x) (list_all (is_digit 10) xs) p in
    let py = and_parts (is_digit 10 y) (list_all (is_digit 10) ys) q in
    let tail_long : length xs ≡ length ys = omega (arith, long) in
    let low_x : 48 ≤ x = leb-true 48 x (and_parts (nat_le 48 x) (nat_lt x (48 + 10)) px.0).0 in
    let low_y : 48 ≤ y = leb-true 48 y (and_parts (nat_le 48 y) (nat_lt y (48 + 10)) py.0).0 in
    let under_x : positional 10 xs < 10 ^ length ys = subst (λ n. positional 10 xs < 10 ^ n) tail_long (positional_below 10 0 xs px.1) in
    let sums : (x - 48) * 10 ^ length ys + positional 10 xs ≡ (y - 48) * 10 ^ length ys + positional 10 ys =
    ap (λ n. (x - 48) * 10 ^ n + positional 10 xs) (sym tail_long) ∙ e in
    let parts = same_parts (x - 48) (y - 48) (10 ^ length ys) (positional 10 xs) (positional 10 ys) under_x
    (positional_below 10 0 ys py.1) sums in
    let first : x ≡ y = omega (arith, low_x, low_y, parts.0) in
    ap (λ d. d ∷ xs) first ∙ ap (λ ds. y ∷ ds) (same_digits xs ys px.1 py.1 tail_long parts.1)

field_of_text : (s : List ℕ) → IsBytes s → (t : Ten s) → s ≡ encode_of standard t.text
unfolding decoded_of
field_of_text s bytes t = decode_of_strict standard s t.text (refl, refl) bytes (result_some (decode_of standard s) t.text t.decoded)

module _ (x y : List ℕ) (x_bytes : IsBytes x) (y_bytes : IsBytes y) (unlike : bytes_eq x y ≡ false) where
  never_same : (s : Ten x) (t : Ten y) → positional 10 s.text ≡ positional 10 t.text → ⊥
  never_same s t e =
      let texts : s.text ≡ t.text = same_digits s.text t.text s.digits t.digits (s.long ∙ sym t.long) e in
      let fields : x ≡ y = field_of_text x x_bytes s ∙ ap (encode_of standard) texts ∙ sym (field_of_text y y_bytes t) in
      let both : true ≡ false = sym ((bytes_eq-Decides x y).1 fields) ∙ unlike in
      cc

  -- two different fields of ten digits are different times
  pub ten_differ : (s : Ten x) (t : Ten y) → true ≡ differs_by same_number (time_of x) (time_of y)
  ten_differ s t =
      rw (ten_time x s, ten_time y t) (elim (int_eq (pos (positional 10 s.text)) (pos (positional 10 t.text))) as
      (λ b. int_eq (pos (positional 10 s.text)) (pos (positional 10 t.text)) ≡ b → true ≡ not b) [
        | true ↦ λ same.
            let numbers : pos (positional 10 s.text) ≡ pos (positional 10 t.text) =
            (Decides-int_eq (pos (positional 10 s.text)) (pos (positional 10 t.text))).0 same in
            let e : positional 10 s.text ≡ positional 10 t.text = cc in
            absurd (never_same s t e)
        | false ↦ λ other. refl
      ] refl)
