-- What is known of files by their paths.
use Rattle.std.specs.Prelude.{◌≡◌, ℕ, List, Option, Some, None, true, Bool, nat_lt, length}

-- what is known of the file at each path: its bytes, or that the file is missing (`Some None`);
-- `None` if neither is known
abbrev pub Files : Type 0
Files = List ℕ → Option (Option (List ℕ))

-- a reel is given only for a file that is there, and gives the bytes of this file
abbrev pub GivesFile : Option (List ℕ) → Option (List ℕ) → Type 0
GivesFile None to_come = ⊥
GivesFile (Some bytes) to_come = to_come ≡ Some bytes

-- the text is longer than a configuration may be
abbrev pub is_too_large : List ℕ → Bool
is_too_large text = nat_lt 4194304 (length text)

-- the file is there and is longer than a configuration may be
abbrev pub IsLarge : Option (List ℕ) → Type 0
IsLarge None = ⊥
IsLarge (Some bytes) = is_too_large bytes ≡ true
