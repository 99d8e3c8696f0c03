use Rattle.std.proofs.Common.{ap, sym, ◌∙◌}
use Rattle.aide_merge.specs.FaultStatus.{fault_status, kind_status}
use Rattle.aide_merge.proofs.run_fault.RunFault.status.Goals as goal

pub returns-in-Read : goal.returns-in-Read
returns-in-Read c = ap kind_status (sym c.in-Read.is) ∙ ap fault_status (sym c.in-Database.is)
