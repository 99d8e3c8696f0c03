use Rattle.std.proofs.Common.{◌+◌, ◌<◌, ◌≤◌, ◌^◌, length}
use Rattle.aide_fields.specs.code.Runs.{AreFound, AreMarked}
use Rattle.aide_fields.proofs.runs.runs_among.Given as goal

-- the bits that are left stand for the blanks from the index on where a run begins
abbrev pub invariant-bits : goal.invariant-bits
invariant-bits l = record {
  found : AreFound l.line l.spanned l.found l.at l.end;
  within : l.end ≤ length l.line;
  near : l.end ≤ l.at + 64;
  marks : AreMarked l.line l.found.begin l.at l.end l.bits;
  small : length l.line < 2 ^ 32;
}

abbrev pub decreases-bits : goal.decreases-bits
decreases-bits l = l.bits
