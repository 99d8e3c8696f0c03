use Rattle.std.proofs.Common.{◌≡◌, ◌+◌, ◌-◌, ◌≤◌, drop}
use Rattle.std.specs.List.{zip}
use Rattle.aide_fields.specs.Spans.{fields_at}
use Rattle.aide_fields.specs.Values.{IsTimeOrNothing}
use Rattle.aide_entry.specs.code.Shapes.{first_misshapen_from}
use Rattle.aide_entry.proofs.entry.first_misshapen.Given as goal

abbrev pub invariant-columns : goal.invariant-columns
invariant-columns l = record {
  same : first_misshapen_from (l.index + 1) (zip (drop l.index l.shapes) (fields_at l.line (drop l.index l.spans)))
      ≡ first_misshapen_from 1 (zip l.shapes (fields_at l.line l.spans));
  time : IsTimeOrNothing l.time;
  position : l.index ≤ l.count;
}

abbrev pub decreases-columns : goal.decreases-columns
decreases-columns l = l.count - l.index
