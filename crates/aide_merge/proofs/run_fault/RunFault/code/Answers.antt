use Rattle.std.proofs.Common.{ap, sym}
use Rattle.aide_merge.specs.FaultStatus.{fault_code}
use Rattle.aide_merge.proofs.run_fault.RunFault.code.Goals as goal

pub returns-in-Changed : goal.returns-in-Changed
returns-in-Changed c = ap fault_code (sym c.in-Changed.is)
