-- Why a fault of a run comes.
use Rattle.std.proofs.Common.{◌≡◌}
use Rattle.std.proofs.Math.Path.{subst}
use Rattle.aide_db.specs.declared.fault.DbFault.{DbFault}
use Rattle.aide_db.specs.declared.side.Side.{Side}
use Rattle.aide_entry.specs.declared.fault_kind.DbFaultKind.{DbFaultKind}
use Rattle.aide_entry.specs.declared.fault_kind.DbFaultKind.TheVariants.{Read}
use Rattle.aide_merge.specs.RunFaults.{IsCaused}
use Rattle.aide_merge.specs.RightAnswer.{Causes, HasCause}
use Rattle.aide_merge.specs.declared.run_fault.RunFault.{RunFault}
use Rattle.aide_merge.specs.declared.run_fault.RunFault.TheVariants.{Open, Database, Changed, Write}

pub read_cause : (kind : DbFaultKind) (site first : Type 0) → Causes kind site first → kind ≡ Read → site
read_cause kind site first stands is = subst (λ (k : DbFaultKind). Causes k site first) is stands

pub caused_by : (site out : Type 0) (first : DbFault → Type 0) (untold : Side → Type 0) (fault : RunFault)
    → HasCause fault site out first untold → IsCaused site out fault
caused_by site out first untold (Open side) cause = cause
caused_by site out first untold (Database fault) cause = read_cause fault.kind site (first fault) cause
caused_by site out first untold (Changed side) cause = tt
caused_by site out first untold (Write written) cause = cause
