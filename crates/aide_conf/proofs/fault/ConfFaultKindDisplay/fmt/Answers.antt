use Rattle.std.proofs.Common.{rules}
use Rattle.aide_conf.proofs.fault.ConfFaultKindDisplay.fmt.Goals as goal

pub returns-clause-writes : goal.returns-clause-writes
returns-clause-writes g c = search (rules)
