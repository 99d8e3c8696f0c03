-- The line of a configuration in the order in which it is written.
use Rattle.std.proofs.Common.{◌≡◌, ℕ, List, [], ◌∷◌, ◌++◌, Bool, true, false, refl, arith, append_assoc}
use Rattle.std.specs.Prelude.{◌&&◌, not}
use Rattle.aide_json.specs.Object.{joined, line, object}

pub settings_parts : (f o n l s t u v a b c d : List ℕ)
    → (123 ∷ []) ++ (f ++ ((44 ∷ []) ++ (o ++ ((44 ∷ []) ++ (n ++ ((44 ∷ []) ++ (l ++ ((44 ∷ [])
    ++ (joined (s ∷ t ∷ u ∷ v ∷ []) ++ ((44 ∷ []) ++ (joined (a ∷ b ∷ c ∷ d ∷ []) ++ (125 ∷ 10 ∷ []))))))))))))
    ≡ line (f ∷ o ∷ n ∷ l ∷ s ∷ t ∷ u ∷ v ∷ a ∷ b ∷ c ∷ d ∷ [])
unfolding line object
settings_parts f o n l s t u v a b c d = grind (arith, append_assoc)

-- behind one that is wanted none is the first, and behind one that is not wanted the first is still to come
pub behind_wanted : (first wanted : Bool) → wanted ≡ true → false ≡ (first && not wanted)
behind_wanted true true e = refl
behind_wanted true false e = cc
behind_wanted false wanted e = refl

pub behind_unwanted : (first wanted : Bool) → wanted ≡ false → first ≡ (first && not wanted)
behind_unwanted true true e = cc
behind_unwanted true false e = refl
behind_unwanted false wanted e = refl
