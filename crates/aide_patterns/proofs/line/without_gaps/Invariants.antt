use Rattle.std.proofs.Common.{◌≡◌, length}
use Rattle.aide_patterns.specs.Line.{without_gaps}
use Rattle.aide_patterns.proofs.line.without_gaps.Given as goal

abbrev pub invariant-gaps : goal.invariant-gaps
invariant-gaps l = without_gaps l.rest ≡ without_gaps l.text

abbrev pub decreases-gaps : goal.decreases-gaps
decreases-gaps l = length l.rest
