-- The merge of two lists in the order of their keys. The contracts of the passes over two databases cite it.
use Rattle.std.specs.Prelude.{List, [], ◌∷◌, map, Some, None}
use Rattle.std.specs.declared.cmp.Ordering.{Ordering}
use Rattle.std.specs.declared.cmp.Ordering.TheVariants.{Less, Equal, Greater}
use Rattle.aide_merge.specs.Compare.{Change}

module _ {K X : Type 0} (R : K → K → Ordering) where
  -- the merge of an old list with a new one. The old list is given by its first entry,
  -- and by a function that merges its other entries with any new list.
  abbrev pub weave : K × X → (List (K × X) → List (Change K X)) → List (K × X) → List (Change K X)
  weave x rest [] = (x.0, (Some x.1, None)) ∷ rest []
  weave x rest (y ∷ ys) = elim (R x.0 y.0) [
    | Less ↦ (x.0, (Some x.1, None)) ∷ rest (y ∷ ys)
    | Equal ↦ (x.0, (Some x.1, Some y.1)) ∷ rest ys
    | Greater ↦ (y.0, (None, Some y.1)) ∷ weave x rest ys
  ]

  -- both lists, in the order of the keys
  abbrev pub merged : List (K × X) → List (K × X) → List (Change K X)
  merged [] ys = map (λ y. (y.0, (None, Some y.1))) ys
  merged (x ∷ xs) ys = weave x (merged xs) ys
