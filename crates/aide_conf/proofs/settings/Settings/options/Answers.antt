use Rattle.std.proofs.Common.{rules}
use Rattle.aide_conf.proofs.settings.Settings.options.Goals as goal

pub returns : goal.returns
returns g c = search rules
