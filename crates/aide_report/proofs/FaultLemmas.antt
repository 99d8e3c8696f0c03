-- The faults of a run, by cases.
use Rattle.std.specs.Prelude.{◌≡◌, ℕ, Option, Some, List, false}
use Rattle.std.proofs.Common.{refl, sym, subst, ap, ◌∙◌}
use Rattle.aide_db.specs.Database.{IsSound}
use Rattle.aide_entry.specs.Cause.{Cause, cause_of, from_outside, is_outside, in_text, in_length, in_memory, in_device}
use Rattle.aide_db.specs.declared.fault.DbFault.{DbFault}
use Rattle.aide_db.specs.declared.limits.Limits.{Limits}
use Rattle.aide_db.specs.declared.side.Side.{Side}
use Rattle.aide_db.proofs.MapLaws.{first_fault_unsound}
use Rattle.aide_report.specs.code.LaterFault.{later_by, later_of}
use Rattle.aide_merge.specs.Openings.{OpensFirst, opened_first}
use Rattle.aide_merge.specs.Standing.{IsFaultOf}
use Rattle.aide_merge.specs.RunFaults.{IsCaused, IsFirst, IsLater, IsRight}
use Rattle.aide_merge.specs.declared.run_fault.RunFault.{RunFault}
use Rattle.aide_merge.specs.declared.run_fault.RunFault.TheVariants.{Open, Database, Changed, Write}
use Rattle.aide_merge.proofs.AnswerLemmas.{true_false}

abbrev pub HasFault : Limits → (Side → Option (List ℕ)) → DbFault → Type 0
HasFault limits bytes_of fault = (text : List ℕ) → bytes_of fault.side ≡ Some text → IsFaultOf limits text fault

changed_later : (limits : Limits) (bytes_of : Side → Option (List ℕ)) (fault : DbFault) → HasFault limits bytes_of fault
    → is_outside fault.kind ≡ false → IsLater limits bytes_of (Changed fault.side)
changed_later limits bytes_of fault first inside text told sound =
    first_fault_unsound limits text fault.line fault.kind (first text told inside) sound

later_at : (limits : Limits) (bytes_of : Side → Option (List ℕ)) (fault : DbFault) → HasFault limits bytes_of fault
    → (cause : Cause) → cause_of fault.kind ≡ cause → IsLater limits bytes_of (later_by cause fault)
later_at limits bytes_of fault first in_memory is = ap from_outside is
later_at limits bytes_of fault first in_device is = ap from_outside is
later_at limits bytes_of fault first _ is = changed_later limits bytes_of fault first (ap from_outside is)

-- a fault of the text after the first readings shows that its side is not sound
pub later_fault : (limits : Limits) (bytes_of : Side → Option (List ℕ)) (fault : DbFault)
    → HasFault limits bytes_of fault → IsLater limits bytes_of (later_of fault)
later_fault limits bytes_of fault first = later_at limits bytes_of fault first (cause_of fault.kind) refl

-- of sides that are sound, a later fault is right
pub right_later : (limits : Limits) (bytes_of : Side → Option (List ℕ))
    → ((side : Side) (text : List ℕ) → bytes_of side ≡ Some text → IsSound limits text)
    → (fault : RunFault) → IsLater limits bytes_of fault → IsRight limits bytes_of fault
right_later limits bytes_of sound (Database fault) later = λ text told inside. absurd (true_false (sym later ∙ inside))
right_later limits bytes_of sound (Changed side) later = λ text told. later text told (sound side text told)
right_later limits bytes_of sound _ later = tt

-- ---- the end of a pass

-- what holds of a changed side and of the fault itself holds of the answer to the fault
later_case : (P : RunFault → Type 0) (fault : DbFault) (cause : Cause) → P (Changed fault.side) → P (Database fault)
    → P (later_by cause fault)
later_case P fault in_text changed same = changed
later_case P fault in_length changed same = changed
later_case P fault _ changed same = same

pub later_is : (P : RunFault → Type 0) (fault : DbFault) → P (Changed fault.side) → P (Database fault) → P (later_of fault)
later_is P fault = later_case P fault (cause_of fault.kind)

-- ---- a fault of the first reading of a side

pub opens_first : (limits : Limits) (bytes_of : Side → Option (List ℕ)) (side : Side) (before after : Side → ℕ) (fault : RunFault)
    → opened_first before after side → IsFirst limits bytes_of side fault → OpensFirst before after fault
opens_first limits bytes_of side before after (Database fault) opens first = λ inside. subst (opened_first before after) (sym first.0) opens
opens_first limits bytes_of side before after _ opens first = tt

-- ---- a fault after the first readings is no fault of a text

pub first_later : (limits : Limits) (bytes_of : Side → Option (List ℕ)) (before after : Side → ℕ) (fault : RunFault)
    → IsLater limits bytes_of fault → OpensFirst before after fault
first_later limits bytes_of before after (Database fault) later = λ inside. absurd (true_false (sym later ∙ inside))
first_later limits bytes_of before after _ later = tt

pub rose_later : (first second sink : Type 0) (fault : RunFault) → (first → second) → IsCaused first sink fault
    → IsCaused second sink fault
rose_later first second sink (Open side) f p = f p
rose_later first second sink (Database fault) f p = λ e. f (p e)
rose_later first second sink (Changed side) f p = tt
rose_later first second sink (Write written) f p = p
