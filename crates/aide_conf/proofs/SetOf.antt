-- Each test of attributes is that of a set.
use Rattle.std.proofs.Common.{rules, ℕ, ◌≡◌, ◌<◌, ◌^◌, suc, zero, Bool, true, false, ap, ◌∙◌, arith, get_or}
use Rattle.std.specs.Prelude.{◌==◌}
use Rattle.std.specs.Int.{bit_at}
use Rattle.std.specs.Int.RustNames.{bit_or}
use Rattle.std.proofs.Math.Pow.{pow_pos}
use Rattle.std.proofs.Math.Path.{fun_ext}
use Rattle.std.proofs.lemmas.Nat.{or_lt, pow_below}
use Rattle.std.proofs.lemmas.Nat.Bits.{bit_at-zero, bit_at-pow_same, bit_at-pow_other, bit_at_above}
use Rattle.std.proofs.Math.Bool.{or-false}
use Rattle.aide_attr.specs.declared.attr.Attr.{Attr}
use Rattle.aide_attr.specs.declared.attr.Attr.TheVariants as attr
use Rattle.aide_attr.specs.declared.set.AttrSet.{AttrSet}
use Rattle.aide_attr.specs.Attr.{index, all_attrs, count}
use Rattle.aide_attr.specs.Set.{has}
use Rattle.aide_attr.proofs.AttrLemmas.{at_index, index_small}
use Rattle.aide_attr.proofs.SetLemmas.{bit_or_test}

attr_of : ℕ → Attr
attr_of i = get_or all_attrs i attr.Ftype

bit_if : Bool → ℕ → ℕ
bit_if true n = 2 ^ n
bit_if false n = 0

-- the bits of the first attributes that pass a test
bits : (Attr → Bool) → ℕ → ℕ
bits f zero = 0
bits f (suc n) = bit_or (bits f n) (bit_if (f (attr_of n)) n)

bit_small : (b : Bool) (n : ℕ) → bit_if b n < 2 ^ suc n
unfolding bit_if
bit_small true n = pow_below n (suc n) (omega arith)
bit_small false n = pow_pos (suc n)

bits_small : (f : Attr → Bool) (n : ℕ) → bits f n < 2 ^ n
unfolding bits
bits_small f zero = pow_pos 0
bits_small f (suc n) = search (rules, pow_below, or_lt, bits, bit_if, attr_of, bit_small, bits_small f n)

own_bit : (b : Bool) (n : ℕ) → (bit_at (bit_if b n) n == 1) ≡ b
unfolding bit_if
own_bit true n = ap (λ z. z == 1) (bit_at-pow_same n)
own_bit false n = ap (λ z. z == 1) (bit_at-zero n)

other_bit : (b : Bool) (n i : ℕ) → i < n → (bit_at (bit_if b n) i == 1) ≡ false
unfolding bit_if
other_bit true n i h = ap (λ z. z == 1) (bit_at-pow_other n i (λ e. omega (arith, e, h)))
other_bit false n i h = ap (λ z. z == 1) (bit_at-zero i)

bits_are : (f : Attr → Bool) (n i : ℕ) → i < n → (bit_at (bits f n) i == 1) ≡ f (attr_of i)
unfolding bits
bits_are f zero i h = absurd (omega arith)
bits_are f (suc n) i h =
    search (rules, bits_are f n i, bit_or_test, bits, bit_if, attr_of, other_bit, or-false, bit_at_above, bits_small, own_bit)

-- the set of the attributes that pass a test
pub set_of : (Attr → Bool) → AttrSet
set_of f = record { bits = record { 0 = bits f count }; known = bits_small f count }

pub has_set_of : (f : Attr → Bool) → has (set_of f) ≡ f
unfolding has set_of attr_of
has_set_of f = fun_ext (λ a. bits_are f count (index a) (index_small a) ∙ ap f (at_index a attr.Ftype))
