use Rattle.std.proofs.Common.{rules}
use Rattle.aide_conf.proofs.options.Options.plain.Goals as goal

pub returns : goal.returns
returns c = search rules
