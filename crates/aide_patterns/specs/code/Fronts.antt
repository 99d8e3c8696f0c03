-- The beginning of a pattern that has no wildcard.
use Rattle.std.specs.Prelude.{◌≡◌, drop, ℕ, ◌==◌, ◌&&◌, ◌||◌, not, Bool, true, false, List, [], ◌∷◌}
use Rattle.aide_patterns.specs.Path.{pattern_of}
use Rattle.aide_patterns.specs.Tests.{matches_path}

-- the text begins with a front
abbrev pub begins : List ℕ → List ℕ → Bool
begins text [] = true
begins [] (byte ∷ front) = false
begins (first ∷ text) (byte ∷ front) = (first == byte) && begins text front

-- the byte has no meaning of its own in a pattern
abbrev pub is_plain : ℕ → Bool
is_plain byte = not ((byte == 42) || ((byte == 63) || ((byte == 91) || (byte == 92))))

-- The front of a pattern, after its first slash, has no wildcard. It does not end in a slash: after one, `**` may match
-- no component.
abbrev pub is_fixed : List ℕ → Bool
is_fixed [] = true
is_fixed (byte ∷ []) = is_plain byte && not (byte == 47)
is_fixed (byte ∷ next ∷ more) = is_plain byte && is_fixed (next ∷ more)

-- every path that matches the pattern begins so after its first byte
abbrev pub IsFront : (pattern front : List ℕ) → Type 0
IsFront pattern front = (path : List ℕ) → matches_path (pattern_of pattern) path ≡ true
    → begins (drop 1 path) front ≡ true
