use Rattle.std.proofs.Common.{◌≡◌, ◌+◌, ◌*◌, ◌^◌, length, true}
use Rattle.std.specs.List.{list_all}
use Rattle.aide_fields.specs.Text.{is_filled}
use Rattle.aide_fields.specs.Numbers.{is_digit, positional}
use Rattle.aide_fields.proofs.number.read_mode.Given as goal

abbrev pub invariant-digits : goal.invariant-digits
invariant-digits l = record {
  filled : is_filled l.digits ≡ true;
  digits : list_all (is_digit 8) l.digits ≡ list_all (is_digit 8) l.rest;
  number : positional 8 l.digits ≡ l.value * 8 ^ length l.rest + positional 8 l.rest;
}

abbrev pub decreases-digits : goal.decreases-digits
decreases-digits l = length l.rest
