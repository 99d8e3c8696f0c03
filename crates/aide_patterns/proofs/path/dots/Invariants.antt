use Rattle.std.proofs.Common.{◌≡◌, ◌≤◌, ◌+◌, length}
use Rattle.aide_patterns.specs.Path.{components}
use Rattle.aide_patterns.specs.Tests.{dots}
use Rattle.aide_patterns.proofs.path.dots.Given as goal

abbrev pub invariant-components : goal.invariant-components
invariant-components l = record {
  counted : l.count + dots (components l.rest) ≡ dots (components l.path);
  within : l.count + length l.rest ≤ length l.path;
}

abbrev pub decreases-components : goal.decreases-components
decreases-components l = length l.rest
