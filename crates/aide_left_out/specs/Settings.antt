-- The directory of the settings.
use Rattle.std.specs.Prelude.{ℕ, ◌==◌, Bool, true, false, ◌&&◌, codes, List, [], ◌∷◌}

-- the directory of the settings, with a slash after it
abbrev pub settings : List ℕ
settings = codes "/etc/aide-compare/"

-- nothing more
abbrev pub is_last : List ℕ → Bool
is_last [] = true
is_last (byte ∷ more) = false

-- a path begins with a front, or is the front without the slash at its end
abbrev pub is_at : (front path : List ℕ) → Bool
is_at [] path = true
is_at (byte ∷ front) [] = byte == 47 && is_last front
is_at (byte ∷ front) (first ∷ path) = (first == byte) && is_at front path

-- the path is that of the settings, or below them
abbrev pub is_setting : List ℕ → Bool
is_setting path = is_at settings path
