-- The texts of changes, one after another.
use Rattle.std.proofs.Common.{◌≡◌, ◌∙◌, ℕ, List, [], ◌∷◌, ◌++◌, ap}
use Rattle.std.specs.List.{flat_map}
use Rattle.aide_fields.specs.Attributes.{Entry}
use Rattle.aide_merge.specs.Said.{PathChange}
use Rattle.aide_merge.specs.code.ChangeView.{alike_of}

module _ (text : PathChange → List ℕ) where
  pub more_written : (change : PathChange) (rest changes more : List PathChange) → rest ≡ changes ++ more → changes ≡ change ∷ []
      → flat_map text rest ≡ text change ++ flat_map text more
  more_written change rest changes more is one = ap (flat_map text) (is ∙ ap (λ l. l ++ more) one)

  pub all_written : (rest : List PathChange) → rest ≡ [] → flat_map text rest ≡ []
  all_written rest none = ap (flat_map text) none

  -- an entry that both sides have alike has no text
  pub alike_written : (entry : Entry) (rest changes more : List PathChange) → text (alike_of entry) ≡ []
      → rest ≡ changes ++ more → changes ≡ alike_of entry ∷ [] → flat_map text rest ≡ flat_map text more
  alike_written entry rest changes more nothing is one =
      more_written (alike_of entry) rest changes more is one ∙ ap (λ l. l ++ flat_map text more) nothing
