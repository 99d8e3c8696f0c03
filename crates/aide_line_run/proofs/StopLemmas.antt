-- Why a run stops that reads each database once.
use Rattle.std.specs.Prelude.{◌≡◌}
use Rattle.std.proofs.Common.{refl}
use Rattle.aide_db.specs.declared.fault.DbFault.{DbFault}
use Rattle.aide_db.specs.declared.side.Side.{Side}
use Rattle.aide_line_run.specs.Stops.{ComesOf}
use Rattle.aide_merge.specs.RightAnswer.{HasCause}
use Rattle.aide_merge.specs.declared.run_fault.RunFault.{RunFault}
use Rattle.aide_merge.specs.declared.run_fault.RunFault.TheVariants.{Open, Database, Changed, Write}

pub comes_of : (sources sink : Type 0) (fault : RunFault) (first : DbFault → Type 0) (untold : Side → Type 0)
    → ((side : Side) → fault ≡ Changed side → ⊥) → HasCause fault sources sink first untold → ComesOf fault sources sink first
comes_of sources sink (Open side) first untold unchanged cause = cause
comes_of sources sink (Database fault) first untold unchanged cause = cause
comes_of sources sink (Changed side) first untold unchanged cause = unchanged side refl
comes_of sources sink (Write written) first untold unchanged cause = cause
