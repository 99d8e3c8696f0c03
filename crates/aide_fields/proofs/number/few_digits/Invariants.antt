use Rattle.std.proofs.Common.{◌≡◌, length}
use Rattle.std.specs.List.{list_all}
use Rattle.aide_fields.specs.Numbers.{is_digit}
use Rattle.aide_fields.proofs.number.few_digits.Given as goal

abbrev pub invariant-bytes : goal.invariant-bytes
invariant-bytes l = list_all (is_digit l.base) l.bytes ≡ list_all (is_digit l.base) l.rest

abbrev pub decreases-bytes : goal.decreases-bytes
decreases-bytes l = length l.rest
