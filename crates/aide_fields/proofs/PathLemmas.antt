-- The order of paths, a byte at a time.
use Rattle.std.proofs.Common.{◌≡◌, ℕ, ◌+◌, List, [], ◌∷◌, map, refl, ap, ◌∙◌, true, false, cond, arith, eqb}
use Rattle.std.specs.declared.cmp.Ordering.{Ordering}
use Rattle.std.specs.declared.cmp.Ordering.TheVariants.{Less, Greater}
use Rattle.std.specs.List.{onto_first}
use Rattle.std.specs.Ordering.{nat_cmp, ordering_then}
use Rattle.std.specs.Cmp.Lexicographic.{slice_cmp}
use Rattle.std.proofs.lemmas.Bool.Decides.{nat_tests}
use Rattle.aide_fields.specs.Text.{is_slash}
use Rattle.aide_fields.specs.Path.{pieces, path_cmp, rank_of}
use Rattle.aide_fields.proofs.SplitLemmas.{split_pieces}

then_assoc : (a b c : Ordering) → ordering_then (ordering_then a b) c ≡ ordering_then a (ordering_then b c)
then_assoc Less b c = refl
then_assoc _ b c = refl

rank_cmp : (x y : ℕ) → nat_cmp (x + 1) (y + 1) ≡ nat_cmp x y
rank_cmp x y = grind (arith, nat_tests)

rank_less : (y : ℕ) → nat_cmp 0 (y + 1) ≡ Less
rank_less y = grind (arith, nat_tests)

rank_greater : (y : ℕ) → nat_cmp (y + 1) 0 ≡ Greater
rank_greater y = grind (arith, nat_tests)

onto_cmp : (x y : ℕ) (p q : List ℕ) (ps qs xs ys : List (List ℕ)) → xs ≡ p ∷ ps → ys ≡ q ∷ qs
    → slice_cmp (slice_cmp nat_cmp) (onto_first x xs) (onto_first y ys) ≡ ordering_then (nat_cmp x y) (slice_cmp (slice_cmp nat_cmp) xs ys)
onto_cmp x y p q ps qs xs ys e f =
    rw (e, f) (then_assoc (nat_cmp x y) (slice_cmp nat_cmp p q) (slice_cmp (slice_cmp nat_cmp) ps qs))

onto_least : (y : ℕ) (q : List ℕ) (qs ys more : List (List ℕ)) → ys ≡ q ∷ qs
    → slice_cmp (slice_cmp nat_cmp) ([] ∷ more) (onto_first y ys) ≡ Less
onto_least y q qs ys more f = rw f refl

onto_greatest : (y : ℕ) (q : List ℕ) (qs ys more : List (List ℕ)) → ys ≡ q ∷ qs
    → slice_cmp (slice_cmp nat_cmp) (onto_first y ys) ([] ∷ more) ≡ Greater
onto_greatest y q qs ys more f = rw f refl

more_least : (q : List ℕ) (qs ys : List (List ℕ)) → ys ≡ q ∷ qs → slice_cmp (slice_cmp nat_cmp) [] ys ≡ Less
more_least q qs ys f = rw f refl

more_greatest : (q : List ℕ) (qs ys : List (List ℕ)) → ys ≡ q ∷ qs → slice_cmp (slice_cmp nat_cmp) ys [] ≡ Greater
more_greatest q qs ys f = rw f refl

by_ranks : (x y : List ℕ)
    → slice_cmp (slice_cmp nat_cmp) (pieces x) (pieces y) ≡ slice_cmp nat_cmp (map rank_of x) (map rank_of y)
by_ranks [] [] = refl
by_ranks [] (y ∷ ys) =
    let q = split_pieces is_slash ys in
    elim (eqb y 47) as (λ b. slice_cmp (slice_cmp nat_cmp) ([] ∷ []) (cond b ([] ∷ pieces ys) (onto_first y (pieces ys))) ≡ Less) [
      | true ↦ more_least q.0 q.1 (pieces ys) q.2
      | false ↦ onto_least y q.0 q.1 (pieces ys) [] q.2
    ]
by_ranks (x ∷ xs) [] =
    let p = split_pieces is_slash xs in
    elim (eqb x 47) as (λ b. slice_cmp (slice_cmp nat_cmp) (cond b ([] ∷ pieces xs) (onto_first x (pieces xs))) ([] ∷ []) ≡ Greater) [
      | true ↦ more_greatest p.0 p.1 (pieces xs) p.2
      | false ↦ onto_greatest x p.0 p.1 (pieces xs) [] p.2
    ]
by_ranks (x ∷ xs) (y ∷ ys) =
    let p = split_pieces is_slash xs in
    let q = split_pieces is_slash ys in
    let more = by_ranks xs ys in
    elim (eqb x 47) as (λ b. slice_cmp (slice_cmp nat_cmp) (cond b ([] ∷ pieces xs) (onto_first x (pieces xs)))
    (cond (eqb y 47) ([] ∷ pieces ys) (onto_first y (pieces ys)))
    ≡ ordering_then (nat_cmp (cond b 0 (x + 1)) (cond (eqb y 47) 0 (y + 1))) (slice_cmp nat_cmp (map rank_of xs) (map rank_of ys))) [
      | true ↦ elim (eqb y 47) as (λ b. slice_cmp (slice_cmp nat_cmp) ([] ∷ pieces xs) (cond b ([] ∷ pieces ys) (onto_first y (pieces ys)))
          ≡ ordering_then (nat_cmp 0 (cond b 0 (y + 1))) (slice_cmp nat_cmp (map rank_of xs) (map rank_of ys))) [
            | true ↦ more
            | false ↦ rw (rank_less y) (onto_least y q.0 q.1 (pieces ys) (pieces xs) q.2)
          ]
      | false ↦ elim (eqb y 47) as (λ b. slice_cmp (slice_cmp nat_cmp) (onto_first x (pieces xs))
          (cond b ([] ∷ pieces ys) (onto_first y (pieces ys)))
          ≡ ordering_then (nat_cmp (x + 1) (cond b 0 (y + 1))) (slice_cmp nat_cmp (map rank_of xs) (map rank_of ys))) [
            | true ↦ rw (rank_greater x) (onto_greatest x p.0 p.1 (pieces xs) (pieces ys) p.2)
            | false ↦ rw (rank_cmp x y) (onto_cmp x y p.0 q.0 p.1 q.1 (pieces xs) (pieces ys) p.2 q.2
                ∙ ap (ordering_then (nat_cmp x y)) more)
          ]
    ]

pub path_cmp_ranks : (x y : List ℕ) → path_cmp x y ≡ slice_cmp nat_cmp (map rank_of x) (map rank_of y)
unfolding path_cmp
path_cmp_ranks x y = by_ranks x y
