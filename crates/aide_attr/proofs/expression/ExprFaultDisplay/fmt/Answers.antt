use Rattle.std.proofs.Common.{rules}
use Rattle.aide_attr.proofs.expression.ExprFaultDisplay.fmt.Goals as goal

pub returns-in-UnknownName-clause-writes : goal.returns-in-UnknownName-clause-writes
returns-in-UnknownName-clause-writes g c = search rules
