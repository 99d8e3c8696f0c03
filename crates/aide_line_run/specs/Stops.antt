-- What a fault means of a run that reads each database once.
use Rattle.std.specs.Io.KnownBytes.{Appends}
use Rattle.std.specs.Prelude.{ℕ, [], List, Option, ⊤}
use Rattle.aide_db.specs.declared.fault.DbFault.{DbFault}
use Rattle.aide_merge.specs.RightAnswer.{Causes}
use Rattle.aide_merge.specs.declared.run_fault.RunFault.{RunFault}
use Rattle.aide_merge.specs.declared.run_fault.RunFault.TheVariants.{Open, Database, Changed}
use Rattle.aide_merge.specs.declared.run_fault.RunFault.TheVariants.{Write}

-- if a side could not be opened, nothing has been written
abbrev pub KeepsUnopened : (before after : Option (List ℕ)) → RunFault → Type 0
KeepsUnopened before after (Open side) = Appends before after []
KeepsUnopened before after _ = ⊤

-- why a fault comes: there is no other
abbrev pub ComesOf : RunFault → (sources sink : Type 0) → (DbFault → Type 0) → Type 0
ComesOf (Open side) sources sink first = sources
ComesOf (Database fault) sources sink first = Causes fault.kind sources (first fault)
ComesOf (Changed side) sources sink first = ⊥
ComesOf (Write written) sources sink first = sink
