-- The texts of the changes that pass a test, one after another.
use Rattle.std.proofs.Common.{◌≡◌, ◌∙◌, ℕ, Bool, true, false, if◌then◌else◌, cond, List, [], ◌∷◌, ◌++◌, ap, refl}
use Rattle.std.specs.List.{flat_map, filter}
use Rattle.aide_merge.specs.Said.{PathChange}

module _ (text : PathChange → List ℕ) where
  -- the text of a change that passes, and nothing for any other
  abbrev pub of_passing : (passes : PathChange → Bool) → PathChange → List ℕ
  of_passing passes change = if passes change then text change else []

  pub all_passing : (passes : PathChange → Bool) (changes : List PathChange)
      → flat_map (of_passing passes) changes ≡ flat_map text (filter passes changes)
  all_passing passes [] = refl
  all_passing passes (change ∷ more) =
      ap (λ l. of_passing passes change ++ l) (all_passing passes more) ∙ by_test (passes change)
    where
      by_test : (b : Bool) → (if b then text change else []) ++ flat_map text (filter passes more)
          ≡ flat_map text (cond b (change ∷ filter passes more) (filter passes more))
      by_test true = refl
      by_test false = refl
