use Rattle.std.specs.Prelude.{Some}
use Rattle.std.proofs.Common.{ap}
use Rattle.aide_db.specs.declared.side.Side.TheVariants.{Old, New}
use Rattle.aide_callers.proofs.tests.by_run.counts_of.Goals as goal

pub returns-in-Ok-run-clause-old : goal.returns-in-Ok-run-clause-old
returns-in-Ok-run-clause-old c = c.in-Ok-run.ensures.sound Old c.args.old.now (ap Some (c.new-sources.ensures.bytes Old))

pub returns-in-Ok-run-clause-new : goal.returns-in-Ok-run-clause-new
returns-in-Ok-run-clause-new c = c.in-Ok-run.ensures.sound New c.args.new.now (ap Some (c.new-sources.ensures.bytes New))
