-- Base64 of ten digits, tested by its symbols. The tables with their weights are those of the code.
use Rattle.std.specs.Prelude.{ℕ, ◌+◌, ◌==◌, nat_le, Bool, ◌&&◌, List, length, slice_index}
use Rattle.base64.specs.Tables.{all_below}
use Rattle.aide_fields.specs.declared.time_digits.TheConstants.{FIRST, SECOND, THIRD, FOURTH, LAST}

-- no byte weighs more than 2
abbrev pub are_light : List ℕ → Bool
are_light weights = all_below (λ byte. nat_le (slice_index weights byte) 2) 256

-- four symbols weigh enough for three digits
unfoldable pub are_three : ℕ → ℕ → ℕ → ℕ → Bool
are_three a b c d = nat_le 7 (slice_index FIRST a + slice_index SECOND b + slice_index THIRD c
    + slice_index FOURTH d)

-- two symbols weigh enough for one digit, and the padding follows them
unfoldable pub is_one : ℕ → ℕ → ℕ → ℕ → Bool
is_one a b c d = nat_le 3 (slice_index FIRST a + slice_index LAST b) && ((c == 61) && (d == 61))

-- the field is base64 of ten digits
unfoldable pub are_ten : List ℕ → Bool
are_ten s = (length s == 16)
    && (are_three (slice_index s 0) (slice_index s 1) (slice_index s 2) (slice_index s 3)
    && (are_three (slice_index s 4) (slice_index s 5) (slice_index s 6) (slice_index s 7)
    && (are_three (slice_index s 8) (slice_index s 9) (slice_index s 10) (slice_index s 11)
    && is_one (slice_index s 12) (slice_index s 13) (slice_index s 14) (slice_index s 15))))

-- of a time: its length, its first symbol and its padding are those of ten digits
unfoldable pub tells_ten : List ℕ → Bool
tells_ten s = (length s == 16) && (nat_le 77 (slice_index s 0) && (slice_index s 14 == 61))
