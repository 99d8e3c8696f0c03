use Rattle.std.proofs.Common.{◌≡◌, ◌+◌, ◌*◌, ◌%◌, ◌^◌, ◌<◌, ◌≤◌, ℕ, arith, pow_pos, pow_mono, rules}
use Rattle.std.specs.Int.{bit_at}
use Rattle.std.proofs.lemmas.Nat.{mul-le}
use Rattle.std.proofs.lemmas.Nat.Bits.{bit_at_cat_low, bit_at_cat_high, bit_at-zero}
use Rattle.aide_fields.proofs.BlankLemmas.{below_from_bits}
use Rattle.aide_fields.proofs.blanks.bits_shifted.Goals as goal

-- no bit is shifted out
fits : (bits distance : ℕ) → ((k : ℕ) → bit_at bits k ≡ 1 → k < 32) → distance ≤ 32
    → bits * 2 ^ distance % 18446744073709551616 ≡ bits * 2 ^ distance + 0
fits bits distance low few =
    let small = below_from_bits bits 32 low in
    let power : 2 ^ distance ≤ 2 ^ 32 = pow_mono few in
    let product : bits * 2 ^ distance ≤ 4294967295 * 4294967296 =
    mul-le bits (2 ^ distance) 4294967295 4294967296 (omega (arith, small)) power in
    omega (arith, product)

pub returns-clause-each : goal.returns-clause-each
returns-clause-each c k = search (rules, fits, bit_at_cat_high, pow_pos)

pub returns-clause-gone : goal.returns-clause-gone
returns-clause-gone c k lt = search (rules, fits, bit_at_cat_low, bit_at-zero)
