-- UTF-8 byte by byte: which byte may follow three others. Zeros stand before the text.
use Rattle.std.specs.Prelude.{ℕ, ◌&&◌, ◌||◌, if◌then◌else◌, Bool, List, [], ◌∷◌, nat_lt, nat_le}
pub use Rattle.simdutf8.specs.Steps.{least_after, most_after}

-- a byte that is not the first of its character
abbrev pub is_continuation : ℕ → Bool
is_continuation c = nat_le 0x80 c && nat_lt c 0xc0

-- after these three bytes no character is left open
abbrev pub is_closed : ℕ → ℕ → ℕ → Bool
is_closed x y z = nat_lt x 0xf0 && (nat_lt y 0xe0 && nat_lt z 0xc0)

-- the byte may follow: as the third or fourth byte of a character, as the second, or as the first
abbrev pub may_follow : ℕ → ℕ → ℕ → ℕ → Bool
may_follow x y z c =
    if nat_le 0xf0 x || nat_le 0xe0 y then is_continuation z && is_continuation c
    else (if nat_le 0xc0 z
    then nat_le 0xc2 z && (nat_le z 0xf4
    && (nat_le (least_after z) c && nat_le c (most_after z)))
    else nat_lt c 0x80 || nat_le 0xc0 c)

-- each byte may follow those before it, and no character is left open
abbrev pub accepts : ℕ → ℕ → ℕ → List ℕ → Bool
accepts x y z [] = is_closed x y z
accepts x y z (c ∷ cs) = may_follow x y z c && accepts y z c cs
