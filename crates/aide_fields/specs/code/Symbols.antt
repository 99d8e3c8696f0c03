-- The symbols of base64 (RFC 4648, section 4), without its padding.
use Rattle.std.specs.Prelude.{ℕ, nat_le, ◌==◌, Bool, ◌&&◌, ◌||◌}

-- the byte is between these two, both included
abbrev pub is_within : ℕ → ℕ → ℕ → Bool
is_within low high byte = nat_le low byte && nat_le byte high

-- the byte is a letter, a digit, a plus or a slash
unfoldable pub is_symbol : ℕ → Bool
is_symbol byte = is_within 65 90 byte || is_within 97 122 byte || is_within 48 57 byte
    || (byte == 43) || (byte == 47)
