-- Whether a name is one of some names.
use Rattle.std.proofs.Common.{arith, ◌≡◌, ℕ, List, [], ◌∷◌, refl, ap, nat_eq}
use Rattle.std.specs.Prelude.{◌||◌}
use Rattle.std.specs.List.{list_any}
use Rattle.std.specs.Cmp.Lexicographic.{pointwise}

-- equal bytes, whichever side they are on
same_flipped : (xs ys : List ℕ) → pointwise nat_eq xs ys ≡ pointwise nat_eq ys xs
same_flipped [] [] = refl
same_flipped [] (y ∷ ys) = refl
same_flipped (x ∷ xs) [] = refl
same_flipped (x ∷ xs) (y ∷ ys) = grind (arith, same_flipped xs ys)

-- the names that `contains` compares with this name, as definitions compare it with them
pub listed_in : (name : List ℕ) (names : List (List ℕ))
    → list_any (λ y. pointwise nat_eq y name) names ≡ list_any (pointwise nat_eq name) names
listed_in name [] = refl
listed_in name (y ∷ names) = rw (same_flipped y name) (ap (λ z. pointwise nat_eq name y || z) (listed_in name names))
