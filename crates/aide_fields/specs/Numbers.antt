-- The numbers in fields.
use Rattle.std.specs.Prelude.{ℕ, ◌+◌, ◌-◌, ◌*◌, ◌^◌, ℤ, pos, negsuc, suc, zero, nat_lt, nat_le}
use Rattle.std.specs.Prelude.{◌==◌, Bool, ◌&&◌, if◌then◌else◌}
use Rattle.std.specs.Prelude.{Option, Some, None, List, [], ◌∷◌, length}
use Rattle.std.specs.List.{list_all}
use Rattle.aide_fields.specs.Text.{is_filled}

-- the byte is a digit below the base
abbrev pub is_digit : ℕ → ℕ → Bool
is_digit base byte = nat_le 48 byte && nat_lt byte (48 + base)

-- the number that digits write, each counted by its position
abbrev pub positional : ℕ → List ℕ → ℕ
positional base [] = 0
positional base (digit ∷ digits) = (digit - 48) * base ^ length digits + positional base digits

-- there is at least one digit, and no other byte
abbrev pub are_digits : ℕ → List ℕ → Bool
are_digits base digits = is_filled digits && list_all (is_digit base) digits

-- the number that digits write, if it is below the bound
abbrev pub digits_of : ℕ → ℕ → List ℕ → Option ℕ
digits_of base bound digits =
    if are_digits base digits && nat_lt (positional base digits) bound then Some
    (positional base digits) else None

-- the number of decimal digits, up to 2^64 - 1
unfoldable pub natural_of : List ℕ → Option ℕ
natural_of digits = digits_of 10 (2 ^ 64) digits

-- the number of octal digits, up to 2^32 - 1
unfoldable pub mode_of : List ℕ → Option ℕ
mode_of digits = digits_of 8 (2 ^ 32) digits

-- the number with a minus sign
abbrev pub minus : ℕ → ℤ
minus zero = pos 0
minus (suc n) = negsuc n

-- the number with a minus sign, down to -2^63
abbrev pub minus_of : Option ℕ → Option ℤ
minus_of None = None
minus_of (Some n) = if nat_le n (2 ^ 63) then Some (minus n) else None

-- a number without a sign
abbrev pub plain_of : Option ℕ → Option ℤ
plain_of None = None
plain_of (Some n) = Some (pos n)

-- the number of an optional minus sign and digits, from -2^63 to 2^64 - 1
unfoldable pub number_of : List ℕ → Option ℤ
number_of [] = None
number_of (first ∷ digits) =
    if first == 45 then minus_of (natural_of digits) else plain_of (natural_of (first ∷ digits))

-- the number, if it is not below 0
abbrev pub not_negative : Option ℤ → Option ℕ
not_negative None = None
not_negative (Some (pos n)) = Some n
not_negative (Some (negsuc n)) = None

-- the number of an optional minus sign and digits, from 0 to 2^64 - 1
unfoldable pub bits_of : List ℕ → Option ℕ
bits_of field = not_negative (number_of field)
