-- The number that digits write, a digit at a time.
use Rattle.std.proofs.lemmas.Grind.{common_steps}
use Rattle.std.proofs.Common.{◌≡◌, ℕ, ◌+◌, ◌-◌, ◌*◌, ◌^◌, ◌<◌, ◌≤◌, List, [], ◌∷◌, length, take, drop, refl, sym, ap, ◌∙◌, subst}
use Rattle.std.proofs.Common.{true, false, Bool, ◌&&◌, arith, Option, cond, None, Some, suc, zero, nat_lt, nat_le, is_some, rules}
use Rattle.std.specs.List.{list_all}
use Rattle.std.proofs.lemmas.List.{take-append-drop, drop-drop}
use Rattle.std.proofs.lemmas.List.Folds.{list_all-append}
use Rattle.std.proofs.lemmas.Bool.{le-ltb, lt-ltb, ltb-true, leb-true, ne_eqb, and_parts}
use Rattle.std.proofs.Math.Nat.{pow-suc, pow-zero, pow-le-pow_right}
use Rattle.aide_fields.specs.Text.{is_filled}
use Rattle.aide_fields.specs.Numbers.{is_digit, are_digits, positional, digits_of, natural_of, mode_of, number_of, bits_of}
use Rattle.aide_fields.specs.Numbers.{not_negative, plain_of}

module _ (base bound : ℕ) where
  -- the number so far, a digit further
  pub digit_step : (v d : ℕ) (ds : List ℕ)
      → v * base ^ length (d ∷ ds) + positional base (d ∷ ds) ≡ (v * base + (d - 48)) * base ^ length ds + positional base ds
  digit_step v d ds = search (rules, pow-suc)

  pow_some : 0 < base → (n : ℕ) → 1 ≤ base ^ n
  pow_some some zero = omega (arith, pow-zero base)
  pow_some some (suc n) = grind (arith, common_steps, pow_some some n, pow-suc)

  grows : (n p : ℕ) → 1 ≤ p → n ≤ n * p
  grows n zero h = absurd (omega arith)
  grows n (suc p) h = omega arith

  pub natural_empty : (ds : List ℕ) → ds ≡ [] → digits_of base bound ds ≡ None
  natural_empty ds e = rw e refl

  pub natural_no_digits : (ds : List ℕ) → list_all (is_digit base) ds ≡ false → digits_of base bound ds ≡ None
  natural_no_digits ds e = search rules

  natural_large : (ds : List ℕ) → bound ≤ positional base ds → digits_of base bound ds ≡ None
  natural_large ds le = rw (le-ltb (positional base ds) bound le)
      (elim (are_digits base ds) as (λ b. cond (b && false) (Some (positional base ds)) None ≡ None) [ true ↦ refl | false ↦ refl ])

  pub natural_is : (ds : List ℕ) → is_filled ds ≡ true → list_all (is_digit base) ds ≡ true → positional base ds < bound
      → digits_of base bound ds ≡ Some (positional base ds)
  natural_is ds filled digits lt = rw (filled, digits, lt-ltb (positional base ds) bound lt) refl

  pub natural_stops : (all rest more : List ℕ) (d : ℕ) → rest ≡ d ∷ more
      → list_all (is_digit base) all ≡ list_all (is_digit base) rest → is_digit base d ≡ false
      → digits_of base bound all ≡ None
  natural_stops all rest more d e same none = natural_no_digits all (same ∙ rw (e, none) refl)

  pub natural_over : 0 < base → (all rest more : List ℕ) (v d : ℕ) → rest ≡ d ∷ more
      → positional base all ≡ v * base ^ length rest + positional base rest → bound ≤ v * base + (d - 48)
      → digits_of base bound all ≡ None
  natural_over some all rest more v d e same le =
      let n : positional base all ≡ (v * base + (d - 48)) * base ^ length more + positional base more = same
      ∙ (rw e (digit_step v d more)) in
      natural_large all (omega (arith, n, grows (v * base + (d - 48)) (base ^ length more) (pow_some some (length more))))

  pub natural_goes : (all rest more : List ℕ) (v d : ℕ) → rest ≡ d ∷ more
      → positional base all ≡ v * base ^ length rest + positional base rest
      → positional base all ≡ (v * base + (d - 48)) * base ^ length more + positional base more
  natural_goes all rest more v d e same = same ∙ rw e (digit_step v d more)

  pub natural_ends : (all rest : List ℕ) (v : ℕ) → rest ≡ [] → is_filled all ≡ true
      → list_all (is_digit base) all ≡ list_all (is_digit base) rest
      → positional base all ≡ v * base ^ length rest + positional base rest → v < bound
      → digits_of base bound all ≡ Some v
  natural_ends all rest v e filled digits same lt = search (rules, pow-zero, natural_is)

  -- digits write less than the power of their number
  pub positional_below : (ds : List ℕ) → list_all (is_digit base) ds ≡ true → positional base ds < base ^ length ds
  positional_below [] e = omega (arith, pow-zero base)
  positional_below (d ∷ ds) e =
      let parts = and_parts (is_digit base d) (list_all (is_digit base) ds) e in
      let low = leb-true 48 d (and_parts (nat_le 48 d) (nat_lt d (48 + base)) parts.0).0 in
      let high = ltb-true d (48 + base) (and_parts (nat_le 48 d) (nat_lt d (48 + base)) parts.0).1 in
      subst (λ p. positional base (d ∷ ds) < p) (sym (pow-suc base (length ds)))
      (one_more (d - 48) base (base ^ length ds) (positional base ds) (omega (arith, low, high)) (positional_below ds parts.1))
    where
      one_more : (n b p r : ℕ) → n < b → r < p → n * p + r < p * b
      one_more n zero p r h k = absurd (omega arith)
      one_more n (suc b) p r h k = omega (arith, times_le n b p (omega (arith, h)))
        where
          times_le : (n b p : ℕ) → n ≤ b → n * p ≤ p * b
          times_le zero b p h = omega arith
          times_le (suc n) zero p h = absurd (omega arith)
          times_le (suc n) (suc b) p h = omega (arith, times_le n b p (omega (arith, h)))

  -- digits whose power is not above the bound have a number where they are digits
  pub short_digits : (ds : List ℕ) → is_filled ds ≡ true → base ^ length ds ≤ bound
      → list_all (is_digit base) ds ≡ is_some (digits_of base bound ds)
  short_digits ds filled le = search (rules, natural_is, positional_below, natural_no_digits)

  pub digits_after : (all rest more : List ℕ) (d : ℕ) → rest ≡ d ∷ more
      → list_all (is_digit base) all ≡ list_all (is_digit base) rest → is_digit base d ≡ true
      → list_all (is_digit base) all ≡ list_all (is_digit base) more
  digits_after all rest more d e same some = same ∙ rw (e, some) refl

pub bits_plain : (o : Option ℕ) → not_negative (plain_of o) ≡ o
bits_plain None = refl
bits_plain (Some n) = refl

some_plain : (o : Option ℕ) → is_some (plain_of o) ≡ is_some o
some_plain None = refl
some_plain (Some n) = refl

-- a field that begins with no minus sign has a number where its digits write one
pub number_plain : (field more : List ℕ) (first : ℕ) → field ≡ first ∷ more → (first ≡ 45 → ⊥)
    → is_some (number_of field) ≡ is_some (natural_of field)
unfolding number_of
number_plain field more first e plain = rw (e, ne_eqb first 45 plain) (some_plain (natural_of (first ∷ more)))

pub bits_plainly : (field more : List ℕ) (first : ℕ) → field ≡ first ∷ more → (first ≡ 45 → ⊥)
    → is_some (bits_of field) ≡ is_some (natural_of field)
unfolding bits_of number_of
bits_plainly field more first e plain =
    rw (e, ne_eqb first 45 plain) (ap is_some (bits_plain (natural_of (first ∷ more))))

-- at most 19 digits write a number below 2^64
pub short_natural : (ds : List ℕ) → is_filled ds ≡ true → length ds ≤ 19
    → list_all (is_digit 10) ds ≡ is_some (natural_of ds)
unfolding natural_of
short_natural ds filled le = search (rules, pow-le-pow_right, short_digits)

-- at most 10 octal digits write a number below 2^32
pub short_mode : (ds : List ℕ) → is_filled ds ≡ true → length ds ≤ 10 → list_all (is_digit 8) ds ≡ is_some (mode_of ds)
unfolding mode_of
short_mode ds filled le = search (rules, pow-le-pow_right, short_digits)

pub no_natural : (ds : List ℕ) → ds ≡ [] → false ≡ is_some (natural_of ds)
unfolding natural_of
no_natural ds e = sym (ap is_some (natural_empty 10 (2 ^ 64) ds e))

pub no_mode : (ds : List ℕ) → ds ≡ [] → false ≡ is_some (mode_of ds)
unfolding mode_of
no_mode ds e = sym (ap is_some (natural_empty 8 (2 ^ 32) ds e))

pub no_number : (ds : List ℕ) → ds ≡ [] → false ≡ is_some (number_of ds)
unfolding number_of
no_number ds e = rw e refl

pub no_bits : (ds : List ℕ) → ds ≡ [] → false ≡ is_some (bits_of ds)
unfolding bits_of number_of
no_bits ds e = rw e refl

-- ---- digits by parts

-- where the first four are digits the others tell
pub digits_behind : (base : ℕ) (ds : List ℕ) → list_all (is_digit base) (take 4 ds) ≡ true
    → list_all (is_digit base) ds ≡ list_all (is_digit base) (drop 4 ds)
digits_behind base ds first = search (rules, take-append-drop, list_all-append)

-- what is no digit behind an index is none of the whole
none_behind : (base : ℕ) (ds : List ℕ) (i : ℕ) → list_all (is_digit base) (drop i ds) ≡ false → list_all (is_digit base) ds ≡ false
none_behind base ds zero h = h
none_behind base [] (suc i) h = h
none_behind base (d ∷ ds) (suc i) h = search (rules, none_behind base ds i h)

-- where those from an index on tell of all, those from an earlier index on do so too
pub digits_from : (base : ℕ) (ds : List ℕ) (i j : ℕ) → i ≤ j → list_all (is_digit base) ds ≡ list_all (is_digit base) (drop j ds)
    → list_all (is_digit base) (drop i ds) ≡ list_all (is_digit base) ds
digits_from base ds i j le same =
    let all : List ℕ → Bool = λ xs. list_all (is_digit base) xs in
    let inner : drop (j - i) (drop i ds) ≡ drop j ds = drop-drop (j - i) i ds ∙ ap (λ (n : ℕ). drop n ds) (omega (arith, le)) in
    elim (all (drop i ds)) as (λ b. all (drop i ds) ≡ b → b ≡ all ds) [
      | true ↦ λ yes. elim (all ds) as (λ b. all ds ≡ b → true ≡ b) [
        | true ↦ λ _. refl
        | false ↦ λ no. sym yes ∙ none_behind base (drop i ds) (j - i) (ap all inner ∙ sym same ∙ no)
      ] refl
      | false ↦ λ no. sym (none_behind base ds i no)
    ] refl
