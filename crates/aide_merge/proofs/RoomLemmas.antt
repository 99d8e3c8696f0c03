-- Where a line fits into the room that was reserved, memory is never wanted.
use Rattle.std.proofs.Common.{◌≡◌, ◌≤◌, ℕ, Bool, true, false, refl, subst, sym}
use Rattle.aide_entry.specs.Cause.{is_memory}
use Rattle.aide_db.specs.Memory.{wanted_memory}
use Rattle.aide_db.specs.declared.fault.DbFault.{DbFault}
use Rattle.aide_db.specs.declared.limits.Limits.{Limits}
use Rattle.aide_db.specs.declared.stage.Stage.{Stage}
use Rattle.aide_db.specs.declared.stage.Stage.TheVariants.{Failed}
use Rattle.aide_merge.specs.Standing.{IsUnfailed}
use Rattle.aide_merge.specs.Room.{IsNotMemory}

not_true : (b : Bool) → (b ≡ true → false ≡ true) → b ≡ false
not_true false h = refl
not_true true h = sym (h refl)

-- a cursor that has not failed wants no memory
pub not_memory : (stage : Stage) (fault : DbFault) → IsUnfailed stage
    → (is_memory fault.kind ≡ true → wanted_memory stage ≡ true) → IsNotMemory fault
not_memory (Failed failure) fault unfailed h = absurd unfailed
not_memory _ fault unfailed h = not_true (is_memory fault.kind) h

-- the limits and the room are what they were
pub still_fits : (a b : Limits) (m n : ℕ) → b ≡ a → n ≡ m → a.line ≤ m → b.line ≤ n
still_fits a b m n same kept le =
    subst (λ (limits : Limits). limits.line ≤ n) (sym same) (subst (λ x. a.line ≤ x) (sym kept) le)
