use Rattle.std.proofs.Common.{◌≡◌, ◌-◌, length}
use Rattle.std.specs.Io.KnownBytes.{Consumes}
use Rattle.aide_site.proofs.config_file.read_all.Given as goal

abbrev pub decreases-chunks : goal.decreases-chunks
decreases-chunks g l = 4194305 - length l.text.items

abbrev pub invariant-chunks : goal.invariant-chunks
invariant-chunks g l = record {
  so_far : Consumes (g.R.Reel.to_come l.fn.reel) (g.R.Reel.to_come l.reel) l.text.items;
  unfailed : g.R.Reel.failures l.reel ≡ g.R.Reel.failures l.fn.reel;
}
