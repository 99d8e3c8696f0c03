-- Faults other than out of memory.
use Rattle.std.specs.Prelude.{◌≡◌, false, ⊤}
use Rattle.aide_entry.specs.Cause.{is_memory}
use Rattle.aide_db.specs.declared.fault.DbFault.{DbFault}
use Rattle.aide_merge.specs.declared.run_fault.RunFault.{RunFault}
use Rattle.aide_merge.specs.declared.run_fault.RunFault.TheVariants.{Open, Database, Changed}
use Rattle.aide_merge.specs.declared.run_fault.RunFault.TheVariants.{Write}

-- a fault of a database other than out of memory
abbrev pub IsNotMemory : DbFault → Type 0
IsNotMemory fault = is_memory fault.kind ≡ false

-- a fault of a run other than out of memory
abbrev pub IsNotOfMemory : RunFault → Type 0
IsNotOfMemory (Open side) = ⊤
IsNotOfMemory (Database fault) = IsNotMemory fault
IsNotOfMemory (Changed side) = ⊤
IsNotOfMemory (Write written) = ⊤
