-- The pieces of a text.
use Rattle.std.proofs.Common.{◌≡◌, ℕ, List, [], ◌∷◌, refl, ap, true, false, cond, Bool}
use Rattle.std.specs.List.{slice_split, onto_first}

-- a split has a first piece
pub split_pieces : (p : ℕ → Bool) (xs : List ℕ)
    → (piece : List ℕ) × (pieces : List (List ℕ)) × (slice_split p xs ≡ piece ∷ pieces)
split_pieces p [] = ([], [], refl)
split_pieces p (x ∷ xs) =
    let rest = split_pieces p xs in
    elim (p x) as (λ b. (piece : List ℕ) × (pieces : List (List ℕ))
    × (cond b ([] ∷ slice_split p xs) (onto_first x (slice_split p xs)) ≡ piece ∷ pieces)) [
      | true ↦ ([], slice_split p xs, refl)
      | false ↦ (x ∷ rest.0, rest.1, ap (onto_first x) rest.2)
    ]
