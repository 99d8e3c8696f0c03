use Rattle.std.proofs.Common.{rules}
use Rattle.aide_conf.proofs.settings.Settings.task.Goals as goal

pub returns-in-Some-Some-clause-some : goal.returns-in-Some-Some-clause-some
returns-in-Some-Some-clause-some g c = search rules
