use Rattle.std.proofs.Common.{◌≡◌, ◌<◌, ◌+◌, ◌*◌, ◌/◌, ◌%◌, ◌^◌, ℕ, ap, sym, ◌∙◌, arith, pow_pos}
use Rattle.std.specs.Int.{bit_at}
use Rattle.std.proofs.lemmas.Nat.{div-add-mod', mod_below}
use Rattle.std.proofs.lemmas.Nat.Bits.{bit_at_cat_low, bit_at_cat_high, bit_at-zero}
use Rattle.aide_fields.proofs.blanks.bits_from.Goals as goal

-- the bits from an index on fit without the ones before them
high_fits : (n s : ℕ) → n < 2 ^ 64 → n / 2 ^ s * 2 ^ s % 18446744073709551616 ≡ n / 2 ^ s * 2 ^ s + 0
high_fits n s fits = omega (arith, fits, div-add-mod' n (2 ^ s))

pub returns-clause-kept : goal.returns-clause-kept
returns-clause-kept c k le =
    let n = c.args.bits in
    let s = c.args.index in
    ap (λ (m : ℕ). bit_at m k) (high_fits n s c.ranges.bits.fits) ∙ (bit_at_cat_high (n / 2 ^ s) s 0 k (pow_pos s) le
    ∙ sym (ap (λ (m : ℕ). bit_at m k) (sym (div-add-mod' n (2 ^ s)))
    ∙ bit_at_cat_high (n / 2 ^ s) s (n % 2 ^ s) k (mod_below n (2 ^ s) (pow_pos s)) le))

pub returns-clause-gone : goal.returns-clause-gone
returns-clause-gone c k lt =
    ap (λ (m : ℕ). bit_at m k) (high_fits c.args.bits c.args.index c.ranges.bits.fits)
    ∙ (bit_at_cat_low _ c.args.index 0 k lt ∙ bit_at-zero k)
