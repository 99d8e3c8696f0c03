-- The first and the last line in the order in which they are written.
use Rattle.std.proofs.Common.{◌≡◌, ℕ, List, [], ◌∷◌, ◌++◌, arith, append_assoc}
use Rattle.aide_json.specs.Object.{joined, line, object}

pub read_parts : (d s : List ℕ)
    → (123 ∷ []) ++ (d ++ ((44 ∷ []) ++ (s ++ (125 ∷ [])))) ≡ object (d ∷ s ∷ [])
unfolding object
read_parts d s = grind (arith, append_assoc)

-- an object with one member
pub digest_parts : (d : List ℕ) → (123 ∷ []) ++ (d ++ (125 ∷ [])) ≡ object (d ∷ [])
unfolding object
digest_parts d = grind (arith, append_assoc)

pub closing_parts : (e x y z w t a r c o p q u b s : List ℕ)
    → (123 ∷ []) ++ (e ++ ((44 ∷ x) ++ ((44 ∷ y) ++ ((44 ∷ z) ++ ((44 ∷ w) ++ ((44 ∷ []) ++ (joined (t ∷ a ∷ r ∷ c ∷ [])
    ++ ((44 ∷ []) ++ (joined (o ∷ p ∷ q ∷ u ∷ []) ++ ((44 ∷ []) ++ (b ++ ((44 ∷ []) ++ (s ++ (125 ∷ 10 ∷ []))))))))))))))
    ≡ line (e ∷ x ∷ y ∷ z ∷ w ∷ t ∷ a ∷ r ∷ c ∷ o ∷ p ∷ q ∷ u ∷ b ∷ s ∷ [])
unfolding line object
closing_parts e x y z w t a r c o p q u b s = grind (arith, append_assoc)

pub opening_parts : (f x y z w : List ℕ)
    → (123 ∷ []) ++ (f ++ ((44 ∷ x) ++ ((44 ∷ y) ++ ((44 ∷ z) ++ ((44 ∷ w) ++ (125 ∷ 10 ∷ []))))))
    ≡ line (f ∷ x ∷ y ∷ z ∷ w ∷ [])
unfolding line object
opening_parts f x y z w = grind (arith, append_assoc)
