use Rattle.std.proofs.Common.{◌≡◌, ◌+◌, ◌*◌, ◌^◌, length, true}
use Rattle.std.specs.List.{list_all}
use Rattle.aide_fields.specs.Text.{is_filled}
use Rattle.aide_fields.specs.Numbers.{is_digit, positional}
use Rattle.aide_fields.proofs.number.read_natural.Given as goal

abbrev pub invariant-digits : goal.invariant-digits
invariant-digits l = record {
  filled : is_filled l.digits ≡ true;
  digits : list_all (is_digit 10) l.digits ≡ list_all (is_digit 10) l.rest;
  number : positional 10 l.digits ≡ l.value * 10 ^ length l.rest + positional 10 l.rest;
}

abbrev pub decreases-digits : goal.decreases-digits
decreases-digits l = length l.rest
