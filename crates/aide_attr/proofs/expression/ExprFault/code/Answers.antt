use Rattle.std.proofs.Common.{ap, sym}
use Rattle.aide_attr.specs.ExprFault.{expr_fault_code}
use Rattle.aide_attr.proofs.expression.ExprFault.code.Goals as goal

pub returns-in-BadExpression : goal.returns-in-BadExpression
returns-in-BadExpression c = ap expr_fault_code (sym c.in-BadExpression.is)
