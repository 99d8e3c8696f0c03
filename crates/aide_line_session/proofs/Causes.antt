-- Why a fault of a run of lines comes.
use Rattle.aide_db.specs.declared.fault.DbFault.{DbFault}
use Rattle.aide_line_run.specs.Stops.{ComesOf}
use Rattle.aide_merge.specs.RunFaults.{IsCaused}
use Rattle.aide_merge.specs.declared.run_fault.RunFault.{RunFault}
use Rattle.aide_merge.specs.declared.run_fault.RunFault.TheVariants.{Open, Database, Changed, Write}
use Rattle.aide_site.proofs.Comparisons.{read_cause}

pub caused_of : (site out : Type 0) (first : DbFault → Type 0) (fault : RunFault)
    → ComesOf fault site out first → IsCaused site out fault
caused_of site out first (Open side) cause = cause
caused_of site out first (Database fault) cause = read_cause fault.kind site (first fault) cause
caused_of site out first (Changed side) cause = absurd cause
caused_of site out first (Write written) cause = cause
