use Rattle.std.proofs.Common.{◌∙◌}
use Rattle.aide_merge.proofs.pass.clear.Goals as goal

pub returns : goal.returns
returns g c = record {
  old = c.start-2.ensures.desk.other ∙ c.start.ensures.desk.emptied;
  new = c.start-2.ensures.desk.emptied;
  peak = c.start-2.ensures.desk.peak ∙ c.start.ensures.desk.peak;
  room = c.start-2.ensures.desk.room ∙ c.start.ensures.desk.room;
}
