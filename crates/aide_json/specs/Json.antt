-- Strings of JSON (RFC 8259 section 7).
use Rattle.std.specs.Prelude.{ℕ, ◌/◌, ◌%◌, ◌==◌, ◌||◌, ◌&&◌, if◌then◌else◌, Bool, List, []}
use Rattle.std.specs.Prelude.{◌∷◌, ◌++◌, nat_lt, nat_le, slice_index, chars, encode_utf8}
use Rattle.std.specs.List.{flat_map}
use Rattle.hex.specs.Hex.{encode_lower, lower_digits}

-- a digit of base 16, in lower case
abbrev pub hex_digit : ℕ → ℕ
hex_digit d = slice_index lower_digits d

-- a code point as a backslash, a u and four digits of base 16
unfoldable pub u_escape : ℕ → List ℕ
u_escape c = 92 ∷ 117 ∷ hex_digit (c / 4096 % 16) ∷ hex_digit (c / 256 % 16)
    ∷ hex_digit (c / 16 % 16) ∷ hex_digit (c % 16) ∷ []

-- The character is a control character (U+0000 to U+001F, U+007F to U+009F), ends a line (U+2028, U+2029),
-- or directs text to the left or right (U+061C, U+200E, U+200F, U+202A to U+202E, U+2066 to U+2069).
abbrev pub is_hidden : ℕ → Bool
is_hidden c =
    nat_lt c 0x20 || ((nat_le 0x7f c && nat_lt c 0xa0) || (c == 0x61c
    || ((nat_le 0x200e c && nat_le c 0x200f) || ((nat_le 0x2028 c && nat_le c 0x202e)
    || (nat_le 0x2066 c && nat_le c 0x2069)))))

-- How a character is written in a string: a quote and a backslash after a backslash, a hidden character by its number,
-- and any other as it is.
abbrev pub json_char : ℕ → List ℕ
json_char c =
    if c == 34 || c == 92 then 92 ∷ c ∷ []
    else (if is_hidden c then u_escape c else encode_utf8 c)

-- the characters of a text, each as it is written in a string
abbrev pub json_text : List ℕ → List ℕ
json_text bytes = flat_map json_char (chars bytes)

-- the string of a text that is UTF-8
abbrev pub json_string : List ℕ → List ℕ
json_string bytes = 34 ∷ (json_text bytes ++ 34 ∷ [])

-- the bytes of any text in base 16, as a string
abbrev pub hex_string : List ℕ → List ℕ
hex_string bytes = 34 ∷ (encode_lower bytes ++ 34 ∷ [])

-- a text that needs no escape, as a string
unfoldable pub quoted : List ℕ → List ℕ
quoted text = 34 ∷ (text ++ 34 ∷ [])
