-- How a path is printed.
use Rattle.std.specs.Prelude.{ℕ, ◌+◌, ◌/◌, ◌%◌, ◌==◌, ◌||◌, if◌then◌else◌, Bool, List, [], ◌∷◌}
use Rattle.std.specs.Prelude.{nat_lt}
use Rattle.std.specs.List.{flat_map}

-- the byte is a control byte or the backslash
abbrev pub is_escaped : ℕ → Bool
is_escaped c = nat_lt c 32 || (c == 127 || c == 92)

-- a backslash and three octal digits
abbrev pub octal_escape : ℕ → List ℕ
octal_escape c = 92 ∷ (48 + c / 64) ∷ (48 + c / 8 % 8) ∷ (48 + c % 8) ∷ []

-- how a byte is printed
abbrev pub printed_byte : ℕ → List ℕ
printed_byte c = if is_escaped c then octal_escape c else (c ∷ [])

-- how a path is printed, byte by byte
abbrev pub printed : List ℕ → List ℕ
printed path = flat_map printed_byte path
