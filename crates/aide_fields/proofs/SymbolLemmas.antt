-- Base64 by its groups: those before the last one are symbols, and the last one is decoded.
use Rattle.std.proofs.lemmas.Grind.{common_steps}
use Rattle.std.proofs.Common.{◌≡◌, ℕ, ◌+◌, ◌*◌, ◌<◌, ◌≤◌, List, [], ◌∷◌, ◌++◌, length, take, drop, slice_index, refl, sym, ap, ◌∙◌, suc}
use Rattle.std.proofs.Common.{zero, arith, inl, inr}
use Rattle.std.proofs.Common.{Bool, true, false, not, ◌&&◌, if◌then◌else◌, Option, Some, None, nat_le, rules}
use Rattle.std.specs.Prelude.{is_some, ◌==◌}
use Rattle.std.specs.List.{list_all}
use Rattle.std.specs.Io.KnownBytes.{prepend_known}
use Rattle.std.proofs.lemmas.Bool.{cases_lt}
use Rattle.std.proofs.Math.Bool.{and_assoc}
use Rattle.std.proofs.lemmas.List.{append-nil, take_more, append_assoc, length-append, take-append-drop}
use Rattle.std.proofs.lemmas.List.Folds.{list_all-append}
use Rattle.base64.proofs.Decoding.{length-groups_bytes}
use Rattle.base64.proofs.Streams.{decoded_of-groups, decoded_of-ok}
use Rattle.base64.proofs.Tables.{all_below_at}
use Rattle.base64.specs.Decode.{or_else, symbol_error, groups_error, groups_bytes, groups_before_last, decode_outcome}
use Rattle.base64.specs.Engines.{standard}
use Rattle.base64.specs.GeneralPurpose.{IsBytes, decode_of, decoded_of}
use Rattle.base64.specs.declared.decode.DecodeError.{DecodeError}
use Rattle.std.specs.declared.result.Result.TheVariants.{Ok, Err}
use Rattle.std.specs.Result.{result_ok}
use Rattle.aide_fields.specs.code.Symbols.{is_symbol}
use Rattle.aide_fields.specs.Values.{digest_of, of_length}

-- what the first eight tell
pub symbols_behind : (n : ℕ) (xs : List ℕ) → list_all is_symbol (take n xs) ≡ true
    → list_all is_symbol xs ≡ list_all is_symbol (drop n xs)
symbols_behind n xs first =
    ap (list_all is_symbol) (sym (take-append-drop n xs)) ∙ list_all-append is_symbol (take n xs) (drop n xs)
    ∙ ap (λ b. b && list_all is_symbol (drop n xs)) first

and_true : (b : Bool) → (b && true) ≡ b
and_true true = refl
and_true false = refl

-- eight of them, as they are tested
pub eight_symbols : (xs : List ℕ) → length xs ≡ 8
    → (is_symbol (slice_index xs 0) && is_symbol (slice_index xs 1) && is_symbol (slice_index xs 2) && is_symbol (slice_index xs 3)
    && is_symbol (slice_index xs 4) && is_symbol (slice_index xs 5) && is_symbol (slice_index xs 6) && is_symbol (slice_index xs 7))
    ≡ list_all is_symbol xs
eight_symbols (a ∷ b ∷ c ∷ d ∷ e ∷ f ∷ g ∷ h ∷ []) long = simp (and_assoc, and_true)
eight_symbols _ long = absurd (omega arith)

abbrev table : List ℕ
table = standard.decode_table

alike : Bool → Bool → Bool
alike true b = b
alike false b = not b

alike_same : (a b : Bool) → alike a b ≡ true → a ≡ b
unfolding alike
alike_same true true e = refl
alike_same true false e = cc
alike_same false false e = refl
alike_same false true e = cc

-- a byte is a symbol where the table has a value for it
in_table : (byte : ℕ) → byte < 256 → is_symbol byte ≡ not (slice_index table byte == 255)
unfolding alike is_symbol
in_table byte small =
    alike_same (is_symbol byte) (not (slice_index table byte == 255))
    (all_below_at (λ b. alike (is_symbol b) (not (slice_index table b == 255))) 256 byte refl small)

is_none : Option DecodeError → Bool
is_none None = true
is_none (Some e) = false

none_of_two : (x y : Option DecodeError) → is_none (or_else x y) ≡ (is_none x && is_none y)
unfolding is_none
none_of_two None y = refl
none_of_two (Some e) y = refl

none_if_not : (b : Bool) (e : DecodeError) → is_none (if b then Some e else None) ≡ not b
unfolding is_none
none_if_not true e = refl
none_if_not false e = refl

none_at : (s : List ℕ) (i : ℕ) → IsBytes s → is_none (symbol_error table s i) ≡ is_symbol (slice_index s i)
none_at s i bytes = none_if_not (slice_index table (slice_index s i) == 255) _ ∙ sym (in_table (slice_index s i) (bytes i))

take_four : (s : List ℕ) (i : ℕ) → i + 4 ≤ length s
    → take (i + 4) s ≡ take i s ++ slice_index s i ∷ slice_index s (i + 1) ∷ slice_index s (i + 2) ∷ slice_index s (i + 3) ∷ []
take_four s i h = grind (arith, common_steps, take_more, append_assoc)

-- the groups have no error where their bytes are symbols
groups_none : (s : List ℕ) (q : ℕ) → IsBytes s → 4 * q ≤ length s
    → list_all is_symbol (take (4 * q) s) ≡ is_none (groups_error table s q)
unfolding is_none groups_error
groups_none s zero bytes fits = refl
groups_none s (suc q) bytes fits =
    let i : ℕ = 4 * q in
    let next : 4 * suc q ≡ i + 4 = omega arith in
    rw (
      next,
      take_four s i (omega arith),
      list_all-append,
      groups_none s q bytes (omega arith),
      and_true,
      none_of_two,
      none_of_two,
      none_of_two,
      none_of_two,
      none_at s i bytes,
      none_at s (i + 1) bytes,
      none_at s (i + 2) bytes,
      none_at s (i + 3) bytes,
    ) refl

error_none : (x : Option DecodeError) → is_none x ≡ true → x ≡ None
unfolding is_none
error_none None e = refl
error_none (Some x) e = cc

prepend_nothing : (o : Option (List ℕ)) → o ≡ prepend_known [] o
prepend_nothing None = refl
prepend_nothing (Some xs) = refl

no_groups : (s : List ℕ) → groups_bytes table s 0 ≡ []
unfolding groups_bytes
no_groups s = refl

second_error : (x y z : Option DecodeError) → is_none y ≡ false → is_none (or_else x (or_else y z)) ≡ false
unfolding is_none
second_error None None z e = cc
second_error None (Some y) z e = refl
second_error (Some x) y z e = refl

no_outcome : (x : Option DecodeError) (text : List ℕ) → is_none x ≡ false → result_ok (decode_outcome x text) ≡ None
unfolding is_none
no_outcome None text e = cc
no_outcome (Some x) text e = refl

counted : (least most count : ℕ) (text : List ℕ) → count ≡ length text
    → (nat_le least count && nat_le count most) ≡ is_some (of_length least most (Some text))
counted least most count text is = search rules

module _ (s : List ℕ) (q : ℕ) (bytes : IsBytes s) (last : q ≡ groups_before_last (length s)) where
  -- the last group, behind symbols
  decoded_last : list_all is_symbol (take (4 * q) s) ≡ true
      → decoded_of standard s ≡ prepend_known (groups_bytes table s q) (decoded_of standard (drop (4 * q) s))
  decoded_last symbols = elim (cases_lt 0 (length s)) [
    | inl some ↦
        let none : groups_error table s q ≡ None = error_none (groups_error table s q)
        (sym (groups_none s q bytes (omega arith)) ∙ symbols) in
        rw (append-nil s, append-nil (drop (4 * q) s)) at (decoded_of-groups standard s [] q (omega arith) none)
    | inr empty ↦
        let zero_groups : q ≡ 0 = omega arith in
        rw (zero_groups, no_groups s) (prepend_nothing (decoded_of standard s))
  ]

  -- something else before it
  undecoded : list_all is_symbol (take (4 * q) s) ≡ false → decoded_of standard s ≡ None
  unfolding decoded_of
  undecoded others = search (rules, groups_none, no_outcome, second_error)

  pub no_symbols : (least most : ℕ) → list_all is_symbol (take (4 * q) s) ≡ false → false ≡ is_some (digest_of least most s)
  unfolding digest_of
  no_symbols least most others = rw (undecoded others) refl

  pub no_last : (least most : ℕ) (e : DecodeError) → list_all is_symbol (take (4 * q) s) ≡ true
      → decode_of standard (drop (4 * q) s) ≡ Err e → false ≡ is_some (digest_of least most s)
  unfolding digest_of decoded_of
  no_last least most e symbols err = rw (decoded_last symbols, err) refl

  pub by_count : (least most count : ℕ) (text : List ℕ) → list_all is_symbol (take (4 * q) s) ≡ true
      → decode_of standard (drop (4 * q) s) ≡ Ok text → count ≡ 3 * q + length text
      → (nat_le least count && nat_le count most) ≡ is_some (digest_of least most s)
  unfolding digest_of
  by_count least most count text symbols ok is =
      rw (decoded_last symbols, decoded_of-ok standard (drop (4 * q) s) text ok)
      (counted least most count (groups_bytes table s q ++ text)
      (omega (arith, length-append (groups_bytes table s q) text, length-groups_bytes table s q)))
