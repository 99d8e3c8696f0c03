-- Texts that are written in a string as they are.
use Rattle.std.specs.Prelude.{ℕ, ◌≡◌, ◌≤◌, ◌==◌, Bool, true, ◌&&◌, not, nat_le, nat_lt, List, take}
use Rattle.std.specs.List.{list_all}

-- the byte is a character of ASCII from the blank to the tilde, and no quote and no backslash
abbrev pub is_plain : ℕ → Bool
is_plain byte = nat_le 32 byte && (nat_lt byte 127 && (not (byte == 34) && not (byte == 92)))

-- the text is the first bytes of the room, so many, and each of them is plain
pub record IsPlainText (text room : List ℕ) (len : ℕ) : Type 0 where
  pub fits : len ≤ 128
  pub is : text ≡ take len room
  pub plain : list_all is_plain (take len room) ≡ true
