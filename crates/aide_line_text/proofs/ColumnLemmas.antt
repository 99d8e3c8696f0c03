-- The numbers of columns one after another.
use Rattle.std.proofs.Common.{◌≡◌, ℕ, ◌+◌, ◌-◌, ◌<◌, ◌≤◌, suc, zero, [], ◌∷◌, ap, arith}
use Rattle.aide_line_text.specs.Ends.{numbers}

pub numbers_more : (first : ℕ) → first < 65 → numbers first (65 - first) ≡ first ∷ numbers (first + 1) (65 - (first + 1))
unfolding numbers
numbers_more first h = let e : 65 - first ≡ suc (65 - (first + 1)) = omega arith in ap (numbers first) e

pub numbers_end : (first : ℕ) → 65 ≤ first → numbers first (65 - first) ≡ []
unfolding numbers
numbers_end first h = let e : 65 - first ≡ zero = omega arith in ap (numbers first) e
