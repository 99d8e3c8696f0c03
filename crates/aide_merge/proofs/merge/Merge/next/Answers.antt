use Rattle.std.proofs.Common.{refl, rules}
use Rattle.aide_merge.proofs.CallLemmas.{passed_on, still_within}
use Rattle.aide_merge.proofs.Steps.{some_change, no_change}
use Rattle.aide_merge.proofs.UpcomingLemmas.{next_ended, next_falls, next_gives, still_ready, upcoming_none}
use Rattle.aide_merge.proofs.merge.Merge.next.Goals as goal

pub returns : goal.returns
returns g c = record {
  keeps = rw (c.release.ensures _ c.at_path-path.ensures) (passed_on g.R.Reel c.args.self.now c.args.desk.now _ _);
  old_cursor = rw (c.release.ensures _ c.at_path-path.ensures) refl;
  new_cursor = rw (c.release.ensures _ c.at_path-path.ensures) refl;
  step = search (rules, still_ready, still_within, next_falls, some_change, next_gives, upcoming_none, no_change, next_ended);
}
