use Rattle.std.proofs.Common.{◌≡◌, ◌+◌, ◌<◌, ◌++◌, ◌^◌, length, drop}
use Rattle.aide_fields.specs.Text.{fields}
use Rattle.aide_fields.specs.Spans.{spans_in, fields_at}
use Rattle.aide_fields.proofs.spans.Spans.find_behind.Given as goal

-- the spans so far, and what is left of the line
abbrev pub invariant-fields : goal.invariant-fields
invariant-fields l = record {
  found : fields_at l.line (spans_in l.self) ++ fields l.rest ≡ fields l.line;
  position : l.rest ≡ drop l.at l.line;
  sum : l.at + length l.rest ≡ length l.line;
  small : length l.line < 2 ^ 32;
}

abbrev pub decreases-fields : goal.decreases-fields
decreases-fields l = length l.rest
