-- What the readings of both pairs keep, and what their faults mean.
use Rattle.std.specs.Prelude.{◌≡◌, ℕ, List, Some, false}
use Rattle.aide_db.specs.Database.{IsSound}
use Rattle.aide_db.specs.DeskView.{DeskView}
use Rattle.aide_db.specs.declared.limits.Limits.{Limits}
use Rattle.aide_db.specs.declared.reel.Reel.{Ghosts as Reels}
use Rattle.aide_db.specs.declared.side.Side.{Side}
use Rattle.aide_merge.specs.Openings.{OpensAtMost, OpensExactly}
use Rattle.aide_merge.specs.Seen.{KeepsSources, Seen}
use Rattle.aide_merge.specs.code.MergeCalls.{IsOpened}
use Rattle.aide_line_run.specs.code.OneReading.{IsOneReadingFault}
use Rattle.aide_merge.specs.code.Desks.{KeepsDesk}
use Rattle.aide_merge.specs.declared.merge.Merge.{Merge}
use Rattle.aide_line_run.specs.Pairs.{OfEach}
use Rattle.aide_line_run.specs.declared.pair_fault.PairFault.{PairFault}

-- What a reading of a pair keeps, whatever its end. No side was opened more than once.
pub record KeepsPair (limits : Limits) (a b : Seen) (d e : DeskView) : Type 0 where
  pub sources : KeepsSources a b
  pub desk : KeepsDesk limits a.bytes_of d e
  pub opens_some : OpensAtMost a.openings b.openings 1

-- A pair was opened, each side once, and nothing of it was read yet.
pub record AreOpened {R : Type 0} (r : Reels R) (limits : Limits) (a b : Seen) (e : DeskView)
    (m : Merge R) : Type 0 where
  pub opened : IsOpened r limits a.bytes_of m e
  pub there : (side : Side) → a.is_missing side ≡ false
  pub opens : OpensExactly a.openings b.openings 1

-- Both sides of a pair are there, and their texts are sound.
pub record AreSoundThere (limits : Limits) (a : Seen) : Type 0 where
  pub there : (side : Side) → a.is_missing side ≡ false
  pub sound : (side : Side) (text : List ℕ) → a.bytes_of side ≡ Some text → IsSound limits text

-- What a fault of all four databases means. Before one of the trusted pair the compared texts are sound.
abbrev pub IsFaultOfFour : Limits → (a b : Seen) → (room : ℕ) → (sink : Type 0) → (s t : Seen)
    → (trusted_room : ℕ) → PairFault
    → Type 0
IsFaultOfFour limits a b room sink s t trusted_room fault =
    OfEach (IsOneReadingFault limits a b room sink)
    (λ fault. IsOneReadingFault limits s t trusted_room ⊥ fault × AreSoundThere limits a) fault
