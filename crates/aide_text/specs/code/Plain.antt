-- Bytes that mean themselves in a text with escapes, and that are printed as they are.
use Rattle.std.specs.Prelude.{ℕ, ◌≡◌, nat_le, ◌==◌, Bool, ◌&&◌, not, List, ◌++◌, take, drop}
use Rattle.percent_encoding.specs.Percent.{percent_decode}
use Rattle.aide_text.specs.Printed.{printed}

-- the byte is no control byte, no percent sign and no backslash
unfoldable pub is_plain : ℕ → Bool
is_plain byte = nat_le 32 byte && not (byte == 37) && not (byte == 92) && not (byte == 127)

-- the first bytes of a text with escapes are printed as they are
abbrev pub IsPlainUpTo : List ℕ → ℕ → Type 0
IsPlainUpTo text n = printed (percent_decode text)
    ≡ take n text ++ printed (percent_decode (drop n text))
