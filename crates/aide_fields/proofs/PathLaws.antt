-- The order of paths is total, and only equal paths tie.
use Rattle.std.proofs.Common.{◌≡◌, ℕ, List, [], ◌∷◌, ◌++◌, refl, sym, ap, ◌∙◌, rules}
use Rattle.std.specs.List.{onto_first}
use Rattle.std.specs.Cmp.{IsTotalOrder, on_total, nat_cmp_total}
use Rattle.std.specs.Cmp.Lexicographic.{lists_total}
use Rattle.std.specs.FinMap.{IsAntisymmetric, nat_cmp-IsAntisymmetric, slice_cmp-IsAntisymmetric}
use Rattle.std.proofs.lemmas.Bool.{eqb-true}
use Rattle.aide_fields.specs.Path.{pieces, path_cmp}
use Rattle.aide_fields.proofs.SplitLemmas.{split_pieces}

pub path_cmp_total : IsTotalOrder path_cmp
unfolding path_cmp
path_cmp_total = on_total pieces (lists_total (lists_total nat_cmp_total))

-- ---- the pieces, with slashes between them, are the path

abbrev behind_slashes : List (List ℕ) → List ℕ
behind_slashes [] = []
behind_slashes (piece ∷ pieces) = 47 ∷ (piece ++ behind_slashes pieces)

abbrev rejoined : List (List ℕ) → List ℕ
rejoined [] = []
rejoined (piece ∷ pieces) = piece ++ behind_slashes pieces

rejoin_slash : (p : List ℕ) (ps all : List (List ℕ)) → all ≡ p ∷ ps → rejoined ([] ∷ all) ≡ 47 ∷ rejoined all
rejoin_slash p ps all e = rw e refl

rejoin_byte : (b : ℕ) (p : List ℕ) (ps all : List (List ℕ)) → all ≡ p ∷ ps
    → rejoined (onto_first b all) ≡ b ∷ rejoined all
rejoin_byte b p ps all e = rw e refl

rejoined-pieces : (xs : List ℕ) → rejoined (pieces xs) ≡ xs
rejoined-pieces [] = refl
rejoined-pieces (x ∷ xs) = search (rules, rejoined-pieces xs, split_pieces, rejoin_slash, eqb-true, rejoin_byte)

pub path_cmp-IsAntisymmetric : IsAntisymmetric path_cmp
unfolding path_cmp
path_cmp-IsAntisymmetric x y e =
    let same : pieces x ≡ pieces y = slice_cmp-IsAntisymmetric (slice_cmp-IsAntisymmetric nat_cmp-IsAntisymmetric) (pieces x)
    (pieces y) e in
    sym (rejoined-pieces x) ∙ (ap rejoined same ∙ rejoined-pieces y)
