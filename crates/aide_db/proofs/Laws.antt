-- What holds of every text: that it is sound or has a first fault, never both, and only one.
use Rattle.std.proofs.Common.{◌≡◌, ℕ, ◌≤◌, List}
use Rattle.std.specs.Prelude.{◌⊎◌}
use Rattle.aide_db.specs.Database.{IsSound, IsFirstFault}
use Rattle.aide_db.specs.declared.limits.Limits.{Limits}
use Rattle.aide_entry.specs.declared.fault_kind.DbFaultKind.{DbFaultKind}
use Rattle.aide_db.proofs.FaultExists.{HasFirstFault, sound_or_fault}
use Rattle.aide_db.proofs.FirstFault.{first_fault_unique}
use Rattle.aide_db.proofs.MapLaws.{first_fault_unsound}

-- under limits that a reader takes, each text is sound or has a first fault
pub every_text_is_judged : (limits : Limits) (text : List ℕ) → 14 ≤ limits.line
    → IsSound limits text ⊎ HasFirstFault limits text
every_text_is_judged = sound_or_fault

-- a text with a first fault is not sound
pub no_sound_text_has_a_fault : (limits : Limits) (text : List ℕ) (line : ℕ) (kind : DbFaultKind)
    → IsFirstFault limits text line kind → IsSound limits text → ⊥
no_sound_text_has_a_fault = first_fault_unsound

-- the line and the kind of the first fault are those of the text alone
pub one_first_fault : (limits : Limits) (text : List ℕ) (n m : ℕ) (k j : DbFaultKind) → IsFirstFault limits text n k
    → IsFirstFault limits text m j → (n ≡ m) × (k ≡ j)
one_first_fault = first_fault_unique
