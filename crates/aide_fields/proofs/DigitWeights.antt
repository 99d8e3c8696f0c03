-- What the weights of symbols tell: four symbols are three digits, or two are one digit.
use Rattle.std.proofs.Common.{◌≡◌, ℕ, ◌+◌, ◌*◌, ◌/◌, ◌%◌, ◌<◌, ◌≤◌, ◌⊎◌, inl, inr, List, [], ◌∷◌, slice_index, refl, arith}
use Rattle.std.proofs.Common.{true, false, Bool, ◌&&◌, ◌||◌, nat_le, nat_lt, Some, rules}
use Rattle.std.specs.Prelude.{◌==◌}
use Rattle.std.specs.List.{list_all}
use Rattle.std.proofs.lemmas.Bool.{and_parts, and_from, or_cases, eqb-true, leb-true, ne_eqb, le-leb, lt-ltb}
use Rattle.base64.proofs.OnLiterals.{base64_on_literals}
use Rattle.base64.proofs.Tables.{all_below_at}
use Rattle.base64.specs.Decode.{decode_group}
use Rattle.base64.specs.Engines.{standard}
use Rattle.base64.specs.GeneralPurpose.{decoded_of}
use Rattle.base64.specs.Tables.{all_below}
use Rattle.aide_fields.specs.Numbers.{is_digit}
use Rattle.aide_fields.specs.code.TimeDigits.{are_light, are_three, is_one}
use Rattle.aide_fields.specs.declared.time_digits.TheConstants.{FIRST, SECOND, THIRD, FOURTH, LAST}

pub light_at : (weights : List ℕ) → are_light weights ≡ true → (byte : ℕ) → byte < 256 → slice_index weights byte ≤ 2
light_at weights light byte small = leb-true (slice_index weights byte) 2
    (all_below_at (λ b. nat_le (slice_index weights b) 2) 256 byte light small)

-- the value that the decoder's table has for a symbol
abbrev pub value : ℕ → ℕ
value symbol = slice_index standard.decode_table symbol

-- ---- what a symbol that weighs something is

implies : Bool → Bool → Bool
implies true b = b
implies false b = true

implied : (a b : Bool) → implies a b ≡ true → a ≡ true → b ≡ true
unfolding implies
implied true b i e = i
implied false b i e = cc

-- a byte that weighs something in a table passes a test of it and its weight
abbrev passes : List ℕ → (ℕ → ℕ → Bool) → ℕ → Bool
passes weights test b = implies (nat_le 1 (slice_index weights b)) (test (slice_index weights b) b)

passed : (weights : List ℕ) (test : ℕ → ℕ → Bool) → all_below (passes weights test) 256 ≡ true
    → (b : ℕ) → b < 256 → 1 ≤ slice_index weights b → test (slice_index weights b) b ≡ true
passed weights test all b small some =
    implied (nat_le 1 (slice_index weights b)) (test (slice_index weights b) b) (all_below_at (passes weights test) 256 b all small)
    (le-leb 1 (slice_index weights b) some)

first_value : (b : ℕ) → b < 256 → 1 ≤ slice_index FIRST b → (12 ≤ value b) × (value b + slice_index FIRST b ≤ 15)
unfolding implies
first_value b small some =
    let both = and_parts (nat_le 12 (value b)) (nat_le (value b + slice_index FIRST b) 15)
    (passed FIRST (λ weight c. nat_le 12 (value c) && nat_le (value c + weight) 15) refl b small some) in
    (leb-true 12 (value b) both.0, leb-true (value b + slice_index FIRST b) 15 both.1)

second_value : (b : ℕ) → b < 256 → 1 ≤ slice_index SECOND b → (value b % 16 ≡ 3) × (value b / 16 + 2 * slice_index SECOND b ≤ 5)
unfolding implies
second_value b small some =
    let both = and_parts (value b % 16 == 3) (nat_le (value b / 16 + 2 * slice_index SECOND b) 5)
    (passed SECOND (λ weight c. (value c % 16 == 3) && nat_le (value c / 16 + 2 * weight) 5) refl b small some) in
    (eqb-true (value b % 16) 3 both.0, leb-true (value b / 16 + 2 * slice_index SECOND b) 5 both.1)

third_value : (b : ℕ) → b < 256 → 1 ≤ slice_index THIRD b → (value b % 4 ≡ 0) × (value b / 4 ≤ 9)
unfolding implies
third_value b small some =
    let both = and_parts (value b % 4 == 0) (nat_le (value b / 4) 9)
    (passed THIRD (λ weight c. (value c % 4 == 0) && nat_le (value c / 4) 9) refl b small some) in
    (eqb-true (value b % 4) 0 both.0, leb-true (value b / 4) 9 both.1)

fourth_value : (b : ℕ) → b < 256 → 1 ≤ slice_index FOURTH b → (48 ≤ value b) × (value b ≤ 57)
unfolding implies
fourth_value b small some =
    let both = and_parts (nat_le 48 (value b)) (nat_le (value b) 57)
    (passed FOURTH (λ weight c. nat_le 48 (value c) && nat_le (value c) 57) refl b small some) in
    (leb-true 48 (value b) both.0, leb-true (value b) 57 both.1)

-- ---- three digits

digit_is : (x : ℕ) → 48 ≤ x → x ≤ 57 → is_digit 10 x ≡ true
digit_is x low high = and_from (nat_le 48 x) (nat_lt x (48 + 10)) (le-leb 48 x low) (lt-ltb x (48 + 10) (omega (arith, high)))

-- four symbols are in the table, and give three digits
pub record Three (a b c d : ℕ) : Type 0 where
  pub first : (value a == 255) ≡ false
  pub second : (value b == 255) ≡ false
  pub third : (value c == 255) ≡ false
  pub fourth : (value d == 255) ≡ false
  pub digits : list_all (is_digit 10) (decode_group (value a) (value b) (value c) (value d)) ≡ true

pub three : (a b c d : ℕ) → a < 256 → b < 256 → c < 256 → d < 256 → are_three a b c d ≡ true → Three a b c d
unfolding are_three
three a b c d small_a small_b small_c small_d is =
    let enough = leb-true 7 (slice_index FIRST a + slice_index SECOND b + slice_index THIRD c + slice_index FOURTH d) is in
    let light_a = light_at FIRST refl a small_a in
    let light_b = light_at SECOND refl b small_b in
    let light_c = light_at THIRD refl c small_c in
    let light_d = light_at FOURTH refl d small_d in
    let first = first_value a small_a (omega (arith, enough, light_b, light_c, light_d)) in
    let second = second_value b small_b (omega (arith, enough, light_a, light_c, light_d)) in
    let third = third_value c small_c (omega (arith, enough, light_a, light_b, light_d)) in
    let fourth = fourth_value d small_d (omega (arith, enough, light_a, light_b, light_c)) in
    let most : value a * 4 + value b / 16 ≤ 57 = omega (arith, enough, light_a, light_b, light_c, light_d, first.1, second.1) in
    let x = digit_is (value a * 4 + value b / 16) (omega (arith, first.0)) most in
    let y = digit_is (value b % 16 * 16 + value c / 4) (omega (arith, second.0)) (omega (arith, second.0, third.1)) in
    let z = digit_is (value c % 4 * 64 + value d) (omega (arith, fourth.0)) (omega (arith, third.0, fourth.1)) in
    record {
      first = ne_eqb (value a) 255 (omega (arith, first.1));
      second = ne_eqb (value b) 255 (omega (arith, second.1));
      third = ne_eqb (value c) 255 (omega (arith, third.1));
      fourth = ne_eqb (value d) 255 (omega (arith, fourth.1));
      digits = rw (x, y, z) refl;
    }

-- the first symbol of a group
first_is : (a : ℕ) → a < 256 → 1 ≤ slice_index FIRST a → (a ≡ 77) ⊎ ((a ≡ 78) ⊎ (a ≡ 79))
unfolding implies
first_is a small some = search (rules, or_cases, eqb-true, test)
  where
    test : ((a == 77) || ((a == 78) || (a == 79))) ≡ true
    test = passed FIRST (λ weight b. (b == 77) || ((b == 78) || (b == 79))) refl a small some

-- the first of four such symbols is `M` or a later one
pub first_high : (a b c d : ℕ) → a < 256 → b < 256 → c < 256 → d < 256 → are_three a b c d ≡ true → 77 ≤ a
unfolding are_three
first_high a b c d small_a small_b small_c small_d is =
    let enough = leb-true 7 (slice_index FIRST a + slice_index SECOND b + slice_index THIRD c + slice_index FOURTH d) is in
    elim (first_is a small_a (omega (
      arith,
      enough,
      light_at SECOND refl b small_b,
      light_at THIRD refl c small_c,
      light_at FOURTH refl d small_d,
    ))) [
      | inl e ↦ omega (arith, e)
      | inr more ↦ elim more [ inl e ↦ omega (arith, e) | inr e ↦ omega (arith, e) ]
    ]

-- ---- one digit

last_is : (a : ℕ) → a < 256 → 1 ≤ slice_index LAST a → ((a ≡ 65) ⊎ (a ≡ 81)) ⊎ ((a ≡ 103) ⊎ (a ≡ 119))
unfolding implies
last_is a small some = search (rules, or_cases, eqb-true, test)
  where
    test : (((a == 65) || (a == 81)) || ((a == 103) || (a == 119))) ≡ true
    test = passed LAST (λ weight b. ((b == 65) || (b == 81)) || ((b == 103) || (b == 119))) refl a small some

-- two symbols and the padding are one digit
abbrev IsOneDigit : ℕ → ℕ → Type 0
IsOneDigit a b = (x : ℕ) × (decoded_of standard (a ∷ b ∷ 61 ∷ 61 ∷ []) ≡ Some (x ∷ [])) × (is_digit 10 x ≡ true)

one_at : (a b : ℕ) → a < 256 → b < 256 → 3 ≤ slice_index FIRST a + slice_index LAST b → IsOneDigit a b
unfolding base64_on_literals
one_at a b small_a small_b enough =
    let some_first : 1 ≤ slice_index FIRST a = omega (arith, enough, light_at LAST refl b small_b) in
    let some_last : 1 ≤ slice_index LAST b = omega (arith, enough, light_at FIRST refl a small_a) in
    elim (first_is a small_a some_first) [
      | inl e ↦ rw e (elim (last_is b small_b some_last) [
        | inl low ↦ elim low [ inl f ↦ rw f (48, refl, refl) | inr f ↦ rw f (49, refl, refl) ]
        | inr high ↦ elim high [ inl f ↦ rw f (50, refl, refl) | inr f ↦ rw f (51, refl, refl) ]
      ])
      | inr more ↦ elim more [
        | inl e ↦ rw e (elim (last_is b small_b some_last) [
          | inl low ↦ elim low [ inl f ↦ rw f (52, refl, refl) | inr f ↦ rw f (53, refl, refl) ]
          | inr high ↦ elim high [ inl f ↦ rw f (54, refl, refl) | inr f ↦ rw f (55, refl, refl) ]
        ])
        | inr e ↦ elim (last_is b small_b some_last) [
          | inl low ↦ rw e (elim low [ inl f ↦ rw f (56, refl, refl) | inr f ↦ rw f (57, refl, refl) ])
          | inr high ↦ absurd (elim high [ inl f ↦ omega (arith, rw (e, f) at enough) | inr f ↦ omega (arith, rw (e, f) at enough) ])
        ]
      ]
    ]

pub one : (a b c d : ℕ) → a < 256 → b < 256 → is_one a b c d ≡ true
    → (x : ℕ) × (decoded_of standard (a ∷ b ∷ c ∷ d ∷ []) ≡ Some (x ∷ [])) × (is_digit 10 x ≡ true)
unfolding is_one
one a b c d small_a small_b is =
    let outer = and_parts (nat_le 3 (slice_index FIRST a + slice_index LAST b)) ((c == 61) && (d == 61)) is in
    let inner = and_parts (c == 61) (d == 61) outer.1 in
    let same_c : c ≡ 61 = eqb-true c 61 inner.0 in
    let same_d : d ≡ 61 = eqb-true d 61 inner.1 in
    rw (same_c, same_d) (one_at a b small_a small_b (leb-true 3 (slice_index FIRST a + slice_index LAST b) outer.0))
