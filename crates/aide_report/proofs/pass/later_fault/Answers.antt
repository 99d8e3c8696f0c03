use Rattle.std.proofs.Common.{◌≡◌, refl}
use Rattle.aide_db.specs.declared.fault.DbFault.{DbFault}
use Rattle.aide_entry.specs.Cause.{cause_of}
use Rattle.aide_entry.specs.declared.fault_kind.DbFaultKind.{DbFaultKind}
use Rattle.aide_entry.specs.declared.fault_kind.DbFaultKind.TheVariants.{Memory, Read}
use Rattle.aide_report.specs.code.LaterFault.{later_by}
use Rattle.aide_merge.specs.declared.run_fault.RunFault.TheVariants.{Changed}
use Rattle.aide_report.proofs.pass.later_fault.Goals as goal

-- the third line stands for every kind of fault that a text can have
of_text : (fault : DbFault) (kind : DbFaultKind) → (kind ≡ Memory → ⊥) → (kind ≡ Read → ⊥)
    → Changed fault.side ≡ later_by (cause_of kind) fault
of_text fault Memory not_memory not_read = absurd (not_memory refl)
of_text fault Read not_memory not_read = absurd (not_read refl)
of_text fault _ not_memory not_read = refl

pub returns-in_default : goal.returns-in_default
returns-in_default c =
    of_text c.args.fault c.args.fault.kind c.in_default.not-Memory c.in_default.not-Read
