use Rattle.std.proofs.Common.{◌≡◌, ◌-◌, ◌≤◌, length, drop}
use Rattle.aide_text.specs.code.Plain.{IsPlainUpTo}
use Rattle.aide_text.proofs.plain.plain_eights.Given as goal

abbrev pub invariant-eights : goal.invariant-eights
invariant-eights l = record {
  fits : length l.rest ≤ length l.text;
  behind : l.rest ≡ drop (length l.text - length l.rest) l.text;
  plain : IsPlainUpTo l.text (length l.text - length l.rest);
}

abbrev pub decreases-eights : goal.decreases-eights
decreases-eights l = length l.rest
