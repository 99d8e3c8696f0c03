use Rattle.std.proofs.Common.{ap, sym}
use Rattle.aide_attr.specs.GroupFault.{group_fault_code}
use Rattle.aide_attr.proofs.groups.GroupFault.code.Goals as goal

pub returns-in-Full : goal.returns-in-Full
returns-in-Full c = ap group_fault_code (sym c.in-Full.is)
