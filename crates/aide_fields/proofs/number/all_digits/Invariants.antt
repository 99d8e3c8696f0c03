use Rattle.std.proofs.Common.{◌≡◌, ◌-◌, ◌≤◌, length, drop}
use Rattle.std.specs.List.{list_all}
use Rattle.aide_fields.specs.Numbers.{is_digit}
use Rattle.aide_fields.proofs.number.all_digits.Given as goal

-- the bytes before those that are left are digits
abbrev pub invariant-fours : goal.invariant-fours
invariant-fours l = record {
  digits : list_all (is_digit l.base) l.bytes ≡ list_all (is_digit l.base) l.rest;
  fits : length l.rest ≤ length l.bytes;
  behind : l.rest ≡ drop (length l.bytes - length l.rest) l.bytes;
}

abbrev pub decreases-fours : goal.decreases-fours
decreases-fours l = length l.rest
