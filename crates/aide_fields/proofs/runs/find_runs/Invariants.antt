use Rattle.std.proofs.Common.{◌-◌, ◌<◌, ◌≤◌, ◌^◌, length}
use Rattle.aide_fields.specs.code.Runs.{AreFound}
use Rattle.aide_fields.proofs.runs.find_runs.Given as goal

-- no blank stands between the index where a run begins and the next bytes
abbrev pub invariant-windows : goal.invariant-windows
invariant-windows l = record {
  found : AreFound l.line l.spanned l.found l.base l.base;
  within : l.base ≤ length l.line;
  long : 32 ≤ length l.line;
  small : length l.line < 2 ^ 32;
}

abbrev pub decreases-windows : goal.decreases-windows
decreases-windows l = length l.line - l.base
