-- The bits of skipped columns, from the last one.
use Rattle.std.proofs.Common.{◌≡◌, ℕ, ◌+◌, ◌*◌, ◌^◌, ◌<◌, ◌≤◌, List, [], ◌∷◌, ◌++◌, length, refl, sym, ap, ◌∙◌}
use Rattle.std.proofs.Common.{true, false, cond, arith, rules}
use Rattle.std.proofs.Math.Nat.{pow-suc, pow-le-pow_right}
use Rattle.aide_entry.specs.Fields.{is_skipped}
use Rattle.aide_entry.specs.Skipped.{skipped_bit, skipped_below, skipped_in}
use Rattle.aide_entry.specs.declared.column.Column.{Column}

pub below_push : (cs : List Column) (c : Column) (more : ℕ)
    → skipped_below (cs ++ c ∷ []) more ≡ skipped_below cs (skipped_bit c + 2 * more)
below_push [] c more = refl
below_push (d ∷ cs) c more = ap (λ n. skipped_bit d + 2 * n) (below_push cs c more)

pub more_below : (cs : List Column) (more : ℕ) → more ≤ skipped_below cs more
more_below [] more = omega arith
more_below (c ∷ cs) more = omega (arith, more_below cs more)

bit_small : (c : Column) → skipped_bit c ≤ 1
bit_small c = elim (is_skipped c) as (λ b. cond b 1 0 ≤ 1) [ true ↦ omega arith | false ↦ omega arith ]

double : (s n p : ℕ) → s ≤ 1 → n + 1 ≤ p → s + 2 * n + 1 ≤ p * 2
double s n p h i = omega arith

in_power : (cs : List Column) → skipped_in cs + 1 ≤ 2 ^ length cs
in_power [] = omega arith
in_power (c ∷ cs) = search (rules, in_power cs, pow-suc, double, bit_small)

less_power : (n p q : ℕ) → n + 1 ≤ p → p ≤ q → n < q
less_power n p q h i = omega arith

pub in_fits : (cs : List Column) → length cs ≤ 64 → skipped_in cs < 2 ^ 64
in_fits cs few = less_power (skipped_in cs) (2 ^ length cs) (2 ^ 64) (in_power cs) (pow-le-pow_right (omega arith) few)

-- a column less from the end
back : (all rest before : List Column) (c : Column) (bits : ℕ) → rest ≡ before ++ c ∷ []
    → skipped_below rest bits ≡ skipped_in all → skipped_below before (skipped_bit c + 2 * bits) ≡ skipped_in all
back all rest before c bits e same = sym (below_push before c bits) ∙ (ap (λ r. skipped_below r bits) (sym e) ∙ same)

less : (s bits low high : ℕ) → s + 2 * bits ≤ low → low ≡ high → high < 2 ^ 64 → bits * 2 + s < 2 ^ 64
less s bits low high h e i = omega arith

pub back_fits : (all rest before : List Column) (c : Column) (bits : ℕ) → length all ≤ 64 → rest ≡ before ++ c ∷ []
    → skipped_below rest bits ≡ skipped_in all → bits * 2 + skipped_bit c < 2 ^ 64
back_fits all rest before c bits few e same =
    less (skipped_bit c) bits _ _ (more_below before (skipped_bit c + 2 * bits)) (back all rest before c bits e same) (in_fits all few)

back_by : (all rest before : List Column) (c : Column) (bits s : ℕ) → s ≡ skipped_bit c → rest ≡ before ++ c ∷ []
    → skipped_below rest bits ≡ skipped_in all → skipped_below before (bits * 2 + s) ≡ skipped_in all
back_by all rest before c bits s is e same =
    let turn : bits * 2 + s ≡ skipped_bit c + 2 * bits = omega (arith, is) in
    ap (skipped_below before) turn ∙ back all rest before c bits e same

pub back_one : (all rest before : List Column) (c : Column) (bits : ℕ) → is_skipped c ≡ true → rest ≡ before ++ c ∷ []
    → skipped_below rest bits ≡ skipped_in all → skipped_below before (bits * 2 + 1) ≡ skipped_in all
back_one all rest before c bits is e same = back_by all rest before c bits 1 (rw is refl) e same

pub back_none : (all rest before : List Column) (c : Column) (bits : ℕ) → is_skipped c ≡ false → rest ≡ before ++ c ∷ []
    → skipped_below rest bits ≡ skipped_in all → skipped_below before (bits * 2) ≡ skipped_in all
back_none all rest before c bits is e same =
    let turn : bits * 2 ≡ bits * 2 + 0 = omega arith in
    ap (skipped_below before) turn ∙ back_by all rest before c bits 0 (rw is refl) e same

pub one_bit : (c : Column) → is_skipped c ≡ true → skipped_bit c ≡ 1
one_bit c is = rw is refl
