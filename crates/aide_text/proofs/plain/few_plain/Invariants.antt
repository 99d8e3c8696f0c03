use Rattle.std.proofs.Common.{◌-◌, ◌≤◌, length}
use Rattle.aide_text.specs.code.Plain.{IsPlainUpTo}
use Rattle.aide_text.proofs.plain.few_plain.Given as goal

abbrev pub invariant-bytes : goal.invariant-bytes
invariant-bytes l = record {
  fits : l.len ≤ length l.text;
  plain : IsPlainUpTo l.text l.len;
}

abbrev pub decreases-bytes : goal.decreases-bytes
decreases-bytes l = length l.text - l.len
