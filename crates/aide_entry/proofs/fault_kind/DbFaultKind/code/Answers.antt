use Rattle.std.proofs.Common.{ap, sym}
use Rattle.aide_entry.specs.Fault.{code_of_kind}
use Rattle.aide_entry.proofs.fault_kind.DbFaultKind.code.Goals as goal

pub returns-in-OutOfOrder : goal.returns-in-OutOfOrder
returns-in-OutOfOrder c = ap code_of_kind (sym c.in-OutOfOrder.is)
