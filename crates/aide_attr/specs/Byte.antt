-- What single bytes of a configuration or a database are.
use Rattle.std.specs.Prelude.{ℕ, Bool, ◌&&◌, ◌||◌, ◌==◌, nat_le, List, [], ◌∷◌, codes}

-- the byte of a letter, written as a text
abbrev pub letter : List ℕ → ℕ
letter [] = 0
letter (byte ∷ bytes) = byte

-- whether the byte is one of these two letters, or between them
abbrev pub is_between : List ℕ → List ℕ → ℕ → Bool
is_between first last b = nat_le (letter first) b && nat_le b (letter last)

-- a space or a tab
unfoldable pub is_blank : ℕ → Bool
is_blank b = (b == letter (codes " ")) || (b == letter (codes "\t"))

-- an ASCII letter, a digit or `_`
unfoldable pub is_word_byte : ℕ → Bool
is_word_byte b =
    is_between (codes "A") (codes "Z") b || is_between (codes "a") (codes "z") b
    || is_between (codes "0") (codes "9") b
    || (b == letter (codes "_"))

-- an ASCII letter, a digit, `_` or `>`: the bytes of names in expressions
unfoldable pub is_name_byte : ℕ → Bool
is_name_byte b = is_word_byte b || (b == letter (codes ">"))
