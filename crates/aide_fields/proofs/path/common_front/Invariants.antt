use Rattle.std.proofs.Common.{◌≡◌, ◌≤◌, length, take}
use Rattle.aide_fields.proofs.path.common_front.Given as goal

abbrev pub invariant-escapes : goal.invariant-escapes
invariant-escapes l = record {
  left : l.count ≤ length l.x;
  right : l.count ≤ length l.y;
  same : take l.count l.x ≡ take l.count l.y;
}

abbrev pub decreases-escapes : goal.decreases-escapes
decreases-escapes l = l.count
