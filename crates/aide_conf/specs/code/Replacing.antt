-- A plain program that replaces the names of a text by their values. `Expansion` defines what an
-- expansion is. It is proved that the program agrees with that definition.
use Rattle.std.specs.Prelude.{ℕ, zero, suc, ◌≡◌, ◌+◌, List, [], ◌∷◌, ◌++◌, codes, length, drop}
use Rattle.std.specs.Prelude.{Option, Some, None, if◌then◌else◌}
use Rattle.aide_conf.specs.Cutting.{bytes_before, bytes_after}
use Rattle.aide_conf.specs.Effect.{begins}
use Rattle.aide_conf.specs.Expansion.{is_brace, NoneOpens, NoBrace, IsExpansion}

-- the expansion of the text after a name, or the text itself if no `}` comes
abbrev pub ended : Option (List ℕ) → List ℕ → List ℕ → List ℕ
ended None text expanded = text
ended (Some rest) text expanded = expanded

-- The expansion after a number of bytes that are passed over. These are the bytes of a name that
-- has been replaced.
abbrev pub expansion_after : (List ℕ → List ℕ) → ℕ → List ℕ → List ℕ
expansion_after value zero [] = []
expansion_after value zero (b ∷ bs) =
    if begins (b ∷ bs) (codes "@@{") then ended (bytes_after is_brace (drop 2 bs)) (b ∷ bs)
    (value (bytes_before is_brace (drop 2 bs))
    ++ expansion_after value (length (bytes_before is_brace (drop 2 bs)) + 3) bs)
    else b ∷ expansion_after value zero bs
expansion_after value (suc n) [] = []
expansion_after value (suc n) (b ∷ bs) = expansion_after value n bs

-- the first name of a text, and the text before and after it
pub record IsFirstName (text before name rest : List ℕ) : Type 0 where
  pub cut : text ≡ before ++ (codes "@@{" ++ name ++ 125 ∷ rest)
  pub none_before : NoneOpens before (codes "@@{" ++ name ++ 125 ∷ rest)
  pub no_brace : NoBrace name

-- a text without a name, which is its own expansion whatever the values are
abbrev pub IsPlain : List ℕ → Type 0
IsPlain text = (value : List ℕ → List ℕ) → IsExpansion value text text
