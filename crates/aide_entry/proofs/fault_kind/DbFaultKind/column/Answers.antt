use Rattle.std.proofs.Common.{ap, sym}
use Rattle.aide_entry.specs.Fault.{column_of_kind}
use Rattle.aide_entry.proofs.fault_kind.DbFaultKind.column.Goals as goal

pub returns-in-BadTime : goal.returns-in-BadTime
returns-in-BadTime c = ap column_of_kind (sym c.in-BadTime.is)
