-- Blanks as bits.
use Rattle.std.proofs.Common.{◌≡◌, ◌↔◌, ℕ, ◌+◌, ◌-◌, ◌*◌, ◌^◌, pow_pos, max, ◌⊎◌, ◌<◌, ◌≤◌, List, refl, ap, ◌∙◌, subst, true, false, Bool}
use Rattle.std.proofs.Common.{zero, suc, ◌/◌, ◌%◌, sym, arith, get_or, bit_or, inl, inr, rules, cond}
use Rattle.std.specs.Prelude.{◌==◌, ◌||◌}
use Rattle.std.specs.Int.{bit_at}
use Rattle.std.proofs.lemmas.Bool.{cases_lt}
use Rattle.std.proofs.lemmas.Nat.{div-add-mod', mod_below}
use Rattle.std.proofs.lemmas.Nat.Bits.{bit_at-zero, bit_at-suc, bit_at_lowest, bit_at-lt, bit_at_cat_high, same_from_bits}
use Rattle.aide_fields.specs.Text.{is_blank}
use Rattle.aide_fields.specs.code.Runs.{AreFound, AreMarked}
use Rattle.aide_fields.specs.declared.runs.Found.{Found}
use Rattle.aide_fields.specs.declared.span.Span.{Span}

high_or : (x y : Bool) → (128 ≤ bit_or (cond x 255 0) (cond y 255 0)) ↔ (x || y ≡ true)
high_or true true = (λ h. refl, λ h. omega arith)
high_or true false = (λ h. refl, λ h. omega arith)
high_or false true = (λ h. refl, λ h. omega arith)
high_or false false = (λ h. absurd (omega (arith, h)), λ h. cc)

-- a lane is high where its byte is blank
pub lane_blank : (byte x y r : ℕ) → x ≡ cond (byte == 32) 255 0 → y ≡ cond (byte == 9) 255 0 → r ≡ bit_or x y
    → (128 ≤ r) ↔ (is_blank byte ≡ true)
lane_blank byte x y r e f g = rw (g, e, f) (high_or (byte == 32) (byte == 9))

-- a byte below one that was looked at, or one without a mark, is not blank
plain_below : (line : List ℕ) (from base end bits last : ℕ)
    → ((k : ℕ) → from ≤ k → k < base → is_blank (get_or line k 0) ≡ false) → AreMarked line from base end bits
    → ((k : ℕ) → base + k < last → bit_at bits k ≡ 0) → last ≤ end → (k : ℕ) → from ≤ k → k < last
    → is_blank (get_or line k 0) ≡ false
plain_below line from base end bits last plain marked none small k low lt =
    elim (cases_lt k base) [
      | inl before ↦ plain k low before
      | inr behind ↦
          let sum : base + (k - base) ≡ k = omega (arith, behind) in
          subst (λ (n : ℕ). is_blank (get_or line n 0) ≡ false) sum
          (marked.each (k - base) (omega (arith, lt, small, behind)) (omega (arith, low, behind))
          (none (k - base) (omega (arith, sum, lt))))
    ]

-- the fields are found up to the lowest mark
pub found_below : (line : List ℕ) (spans : List Span) (so_far : Found) (base end bits bit : ℕ)
    → AreFound line spans so_far base end → AreMarked line so_far.begin base end bits
    → ((k : ℕ) → k < bit → bit_at bits k ≡ 0) → bit_at bits bit ≡ 1 → AreFound line spans so_far (base + bit) (base + bit)
found_below line spans so_far base end bits bit found marked below set = record {
  few = found.few;
  order = (marked.marks bit set).1;
  plain = plain_below line so_far.begin base end bits (base + bit) found.plain marked (λ k lt. below k (omega (arith, lt)))
      (omega (arith, (marked.marks bit set).0));
  whole = found.whole;
}

-- they are found up to the end if no mark is left
pub found_all : (line : List ℕ) (spans : List Span) (so_far : Found) (base end bits : ℕ) → AreFound line spans so_far base end
    → AreMarked line so_far.begin base end bits → bits ≡ 0 → AreFound line spans so_far end end
found_all line spans so_far base end bits found marked none = record {
  few = found.few;
  order = found.order;
  plain = plain_below line so_far.begin base end bits end found.plain marked (λ k lt. ap (λ n. bit_at n k) none ∙ bit_at-zero k)
      (omega arith);
  whole = found.whole;
}

-- a number whose bits are all below an index is below that power of two
pub below_from_bits : (n k : ℕ) → ((i : ℕ) → bit_at n i ≡ 1 → i < k) → n < 2 ^ k
below_from_bits n k h =
    let q = n / 2 ^ k in
    let sum : q * 2 ^ k + n % 2 ^ k ≡ n = div-add-mod' n (2 ^ k) in
    let small = mod_below n (2 ^ k) (pow_pos k) in
    let none : (i : ℕ) → bit_at q i ≡ 0 = λ i.
    (let up : bit_at n (i + k) ≡ bit_at q i =
    ap (λ m. bit_at m (i + k)) (sym sum) ∙ bit_at_cat_high q k (n % 2 ^ k) (i + k) small (omega arith)
    ∙ ap (λ j. bit_at q j) (omega arith) in
    elim (cases_lt (bit_at q i) 1) [
      | inl none ↦ omega (arith, none)
      | inr set ↦ absurd (let over = h (i + k) (omega (arith, up, set, bit_at-lt q i)) in omega (arith, over))
    ]) in
    let empty : q ≡ 0 = same_from_bits q 0 (λ i. none i ∙ sym (bit_at-zero i)) in
    let rest : n ≡ 0 * 2 ^ k + n % 2 ^ k = sym sum ∙ ap (λ x. x * 2 ^ k + n % 2 ^ k) empty in
    omega (arith, rest, small)

-- a bit of two numbers, the second of them shifted, is one of the first or stands for one of the second
bit_of_either : (distance a b shifted whole : ℕ) → ((k : ℕ) → bit_at shifted (k + distance) ≡ bit_at b k)
    → ((k : ℕ) → k < distance → bit_at shifted k ≡ 0) → ((k : ℕ) → bit_at whole k ≡ max (bit_at a k) (bit_at shifted k))
    → (k : ℕ) → bit_at whole k ≡ 1 → (bit_at a k ≡ 1) ⊎ ((distance ≤ k) × (bit_at b (k - distance) ≡ 1))
bit_of_either distance a b shifted whole each gone both k one = search (rules, cases_lt, bit_at-lt)

pub bit_within : (at later a b shifted whole : ℕ) → at ≤ later → ((k : ℕ) → bit_at a k ≡ 1 → k < 32) → ((k : ℕ) → bit_at b k ≡ 1 → k < 32)
    → ((k : ℕ) → bit_at shifted (k + (later - at)) ≡ bit_at b k) → ((k : ℕ) → k < later - at → bit_at shifted k ≡ 0)
    → ((k : ℕ) → bit_at whole k ≡ max (bit_at a k) (bit_at shifted k)) → (k : ℕ) → bit_at whole k ≡ 1 → at + k < later + 32
bit_within at later a b shifted whole order near far each gone both k one =
    elim (bit_of_either (later - at) a b shifted whole each gone both k one) [
      | inl low ↦ omega (arith, near k low, order)
      | inr high ↦ omega (arith, far (k - (later - at)) high.1, high.0, order)
    ]

-- a byte is blank where the bit is set
pub blank_of_either : (line : List ℕ) (at later a b shifted whole : ℕ) → at ≤ later
    → ((k : ℕ) → k < 32 → (bit_at a k ≡ 1) ↔ (is_blank (get_or line (at + k) 0) ≡ true)) → ((k : ℕ) → bit_at a k ≡ 1 → k < 32)
    → ((k : ℕ) → k < 32 → (bit_at b k ≡ 1) ↔ (is_blank (get_or line (later + k) 0) ≡ true)) → ((k : ℕ) → bit_at b k ≡ 1 → k < 32)
    → ((k : ℕ) → bit_at shifted (k + (later - at)) ≡ bit_at b k) → ((k : ℕ) → k < later - at → bit_at shifted k ≡ 0)
    → ((k : ℕ) → bit_at whole k ≡ max (bit_at a k) (bit_at shifted k)) → (k : ℕ) → bit_at whole k ≡ 1
    → is_blank (get_or line (at + k) 0) ≡ true
blank_of_either line at later a b shifted whole order here near there far each gone both k one =
    elim (bit_of_either (later - at) a b shifted whole each gone both k one) [
      | inl low ↦ (here k (near k low)).0 low
      | inr high ↦
          let j = k - (later - at) in
          let same : later + j ≡ at + k = omega (arith, high.0, order) in
          subst (λ (n : ℕ). is_blank (get_or line n 0) ≡ true) same ((there j (far j high.1)).0 high.1)
    ]

-- the bit is set where a byte is blank
pub either_of_blank : (line : List ℕ) (at later a b shifted whole : ℕ) → at ≤ later → later ≤ at + 32
    → ((k : ℕ) → k < 32 → (bit_at a k ≡ 1) ↔ (is_blank (get_or line (at + k) 0) ≡ true))
    → ((k : ℕ) → k < 32 → (bit_at b k ≡ 1) ↔ (is_blank (get_or line (later + k) 0) ≡ true))
    → ((k : ℕ) → bit_at shifted (k + (later - at)) ≡ bit_at b k)
    → ((k : ℕ) → bit_at whole k ≡ max (bit_at a k) (bit_at shifted k)) → (k : ℕ) → at + k < later + 32
    → is_blank (get_or line (at + k) 0) ≡ true → bit_at whole k ≡ 1
either_of_blank line at later a b shifted whole order near here there each both k lt blank =
    elim (cases_lt k 32) [
      | inl low ↦ omega (arith, both k, (here k low).1 blank, bit_at-lt shifted k)
      | inr high ↦
          let j = k - (later - at) in
          let same : at + k ≡ later + j = omega (arith, high, order, near) in
          let set = (there j (omega (arith, lt, high, order, near))).1 (subst (λ (n : ℕ). is_blank (get_or line n 0) ≡ true) same blank) in
          let sum : j + (later - at) ≡ k = omega (arith, high, order, near) in
          omega (arith, both k, sym (ap (λ i. bit_at shifted i) sum) ∙ each j ∙ set, bit_at-lt a k)
    ]

-- a bit above one that is set stays in the number one less
pub bit_at_pred_above : (k low n : ℕ) → bit_at n low ≡ 1 → low < k → bit_at (n - 1) k ≡ bit_at n k
bit_at_pred_above zero low n set above = absurd (omega (arith, above))
bit_at_pred_above (suc k) zero n set above = search (rules, bit_at_lowest, bit_at-suc)
bit_at_pred_above (suc k) (suc low) n set above =
    search (rules, bit_at_pred_above k low (n / 2) (sym (bit_at-suc n low) ∙ set) (omega (arith, above)), bit_at-suc, cases_lt)

-- the lowest bit is not set in the number one less
pub bit_at_pred_lowest : (low n : ℕ) → bit_at n low ≡ 1 → ((k : ℕ) → k < low → bit_at n k ≡ 0)
    → bit_at (n - 1) low ≡ 0
bit_at_pred_lowest zero n set below = bit_at_lowest (n - 1) ∙ omega (arith, bit_at_lowest n, set)
bit_at_pred_lowest (suc low) n set below =
    let even : n % 2 ≡ 0 = sym (bit_at_lowest n) ∙ below 0 (omega arith) in
    let half : (n - 1) / 2 ≡ n / 2 - 1 = omega (arith, even) in
    bit_at-suc (n - 1) low ∙ (ap (λ m. bit_at m low) half ∙ bit_at_pred_lowest low (n / 2) (sym (bit_at-suc n low) ∙ set)
    (λ k lt. sym (bit_at-suc n k) ∙ below (suc k) (omega (arith, lt))))
