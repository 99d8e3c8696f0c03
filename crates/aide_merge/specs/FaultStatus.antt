-- The number and the exit status of a fault.
use Rattle.std.specs.Prelude.{ℕ}
use Rattle.aide_entry.specs.declared.fault_kind.DbFaultKind.{DbFaultKind}
use Rattle.aide_entry.specs.declared.fault_kind.DbFaultKind.TheVariants.{Memory, Read}
use Rattle.aide_merge.specs.declared.run_fault.RunFault.{RunFault}
use Rattle.aide_merge.specs.declared.run_fault.RunFault.TheVariants.{Open, Database, Changed}
use Rattle.aide_merge.specs.declared.run_fault.RunFault.TheVariants.{Write}

-- the code of a fault, from 1
abbrev pub fault_code : RunFault → ℕ
fault_code (Open side) = 1
fault_code (Database fault) = 2
fault_code (Changed side) = 3
fault_code (Write written) = 4

-- 18 if a device failed, 22 if memory ran out, 24 if the text has a fault
abbrev pub kind_status : DbFaultKind → ℕ
kind_status Read = 18
kind_status Memory = 22
kind_status _ = 24

-- the status of a fault of a run
abbrev pub fault_status : RunFault → ℕ
fault_status (Open side) = 18
fault_status (Database fault) = kind_status fault.kind
fault_status (Changed side) = 18
fault_status (Write written) = 18
