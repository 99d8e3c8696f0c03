-- How often the sides were opened in a call.
use Rattle.std.specs.Prelude.{◌≡◌, ◌≤◌, ℕ, ◌+◌, Bool, false, ⊤}
use Rattle.aide_entry.specs.Count.{one_more, sum_of}
use Rattle.aide_entry.specs.Cause.{is_outside}
use Rattle.aide_db.specs.Side.{by_side}
use Rattle.aide_db.specs.declared.side.Side.{Side}
use Rattle.aide_db.specs.declared.side.Side.TheVariants.{Old, New}
use Rattle.aide_merge.specs.declared.run_fault.RunFault.{RunFault}
use Rattle.aide_merge.specs.declared.run_fault.RunFault.TheVariants.{Open, Database, Write}

-- each side was opened `count` more times
pub record OpensExactly (old new : Side → ℕ) (count : ℕ) : Type 0 where
  pub of_old : new Old ≡ sum_of (old Old) count
  pub of_new : new New ≡ sum_of (old New) count

-- each side was opened at most `count` more times
pub record OpensAtMost (old new : Side → ℕ) (count : ℕ) : Type 0 where
  pub of_old : new Old ≤ old Old + count
  pub of_new : new New ≤ old New + count

-- The old side was opened once.
-- The new side was not opened if the fault is the old side's, and otherwise it was opened once.
abbrev pub opened_first : (Side → ℕ) → (Side → ℕ) → Side → Type 0
opened_first old new Old = (new Old ≡ one_more (old Old)) × (new New ≡ old New)
opened_first old new New = (new Old ≡ one_more (old Old)) × (new New ≡ one_more (old New))

-- how often the sides were opened if the first fault of a text is returned
abbrev pub OpensFirst : (Side → ℕ) → (Side → ℕ) → RunFault → Type 0
OpensFirst old new (Database fault) = is_outside fault.kind ≡ false
    → opened_first old new fault.side
OpensFirst old new _ = ⊤

-- the old side was opened at least once
pub record WasOpened (before after : ℕ) : Type 0 where
  pub passes : ℕ
  pub of_old : after ≡ sum_of before (passes + 1)

-- any fault except a failed write comes only after the old side was opened
abbrev pub ComesOpened : (before after : ℕ) → RunFault → Type 0
ComesOpened before after (Write written) = ⊤
ComesOpened before after _ = WasOpened before after

-- A pass opens the old side first. If the old side is refused, it was opened once more than the new side.
-- If the new side is refused, both sides were opened equally often.
pub record IsRefusedIn (old new : Side → ℕ) (side : Side) : Type 0 where
  pub passes : ℕ
  pub of_old : new Old ≡ sum_of (old Old) (passes + 1)
  pub of_new : new New ≡ sum_of (old New) (by_side passes (passes + 1) side)

-- if a side could not be opened, it is the one that was opened last
abbrev pub IsRefusedThere : (Side → ℕ) → (Side → ℕ) → RunFault → Type 0
IsRefusedThere old new (Open side) = IsRefusedIn old new side
IsRefusedThere old new _ = ⊤

-- if a side could not be opened, its last opening is not known to have succeeded
abbrev pub IsNotGiven : (Side → Bool) → RunFault → Type 0
IsNotGiven was_given (Open side) = was_given side ≡ false
IsNotGiven was_given _ = ⊤
