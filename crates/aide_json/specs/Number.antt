-- Numbers of JSON: one of more than 53 bits is a string of its digits (RFC 7493 section 2.2).
use Rattle.std.specs.Prelude.{ℕ, ℤ, if◌then◌else◌, Bool, List, decimal, nat_abs, nat_lt}
use Rattle.std.specs.Fmt.{signed_decimal}
use Rattle.aide_json.specs.Value.{Value, number, word}

-- whether each reader keeps a number of this size
abbrev pub is_exact : ℕ → Bool
is_exact size = nat_lt size 9007199254740992

-- a number of this size by its digits
abbrev pub number_as : ℕ → List ℕ → Value
number_as size digits = if is_exact size then number digits else word digits

-- an integer
abbrev pub integer : ℤ → Value
integer n = number_as (nat_abs n) (signed_decimal n)

-- a count
abbrev pub count : ℕ → Value
count n = number_as n (decimal n)
