-- Which of the faults of two pairs comes first.
use Rattle.std.specs.Prelude.{ℕ, ◌≡◌, List, ⊤, true, false}
use Rattle.aide_db.specs.Database.{IsSound}
use Rattle.aide_db.specs.DeskView.{DeskView}
use Rattle.aide_db.specs.declared.reel.Reel.{Ghosts as Reels}
use Rattle.aide_db.specs.declared.side.Side.{Side}
use Rattle.aide_merge.specs.Bound.{FitsAfterBoth}
use Rattle.aide_merge.specs.code.Merging.{IsReady, StandsAt, limits_at}
use Rattle.aide_line_run.specs.code.OneReading.{IsFirstOfBoth}
use Rattle.aide_merge.specs.code.Settling.{IsSettled, IsStopped}
use Rattle.aide_merge.specs.declared.merge.Merge.{Merge}
use Rattle.aide_text.specs.declared.pen.Pen.{Pen}
use Rattle.aide_line_run.specs.declared.walk.Merges.{Merges}
use Rattle.aide_line_run.specs.declared.walk.PairStop.{PairStop}
use Rattle.aide_line_run.specs.declared.walk.PairStop.TheVariants.{Compared, Trusted, Write}

-- both merges where a walk has stopped: at a fault of the trusted pair the compared one can be read on
abbrev pub IsPairStopped : {R : Type 0} → Reels R → Merges R → DeskView → PairStop → Type 0
IsPairStopped r m d (Compared fault) = IsStopped r m.compared fault
IsPairStopped r m d (Trusted fault) = IsReady m.compared d × IsStopped r m.trusted fault
IsPairStopped r m d Write = ⊤

-- both texts of a merge are sound
abbrev pub AreReadSound : {R : Type 0} → Reels R → Merge R → DeskView → Type 0
AreReadSound r m d = (side : Side) (text : List ℕ) → StandsAt r.to_come m d side text
    → IsSound (limits_at m side) text

-- Both desks keep their rooms, and fit the lines that they fitted.
pub record FitsMerges {R : Type 0} (r : Reels R) (m : Merges R) (d e u v : DeskView) : Type 0 where
  pub room : e.room ≡ d.room
  pub trusted_room : v.room ≡ u.room
  pub fits : FitsAfterBoth r.to_come m.compared d e
  pub trusted_fits : FitsAfterBoth r.to_come m.trusted u v

-- The stop that comes first. A fault of the trusted pair is the first one only if both compared texts are sound.
abbrev pub IsFirstStop : {R : Type 0} → Reels R → (m n : Merges R) → (d e u v : DeskView)
    → (stop first : PairStop)
    → Type 0
IsFirstStop r m n d e u v (Compared fault) (Compared first) =
    IsSettled r m.compared n.compared d e fault first
IsFirstStop r m n d e u v (Trusted fault) (Compared first) =
    IsFirstOfBoth r m.compared n.compared d first
IsFirstStop r m n d e u v (Trusted fault) (Trusted first) =
    IsSettled r m.trusted n.trusted u v fault first × AreReadSound r m.compared d
IsFirstStop r m n d e u v Write Write = ⊤
IsFirstStop r m n d e u v _ _ = ⊥

-- The first fault of all four databases, or a failed write.
abbrev pub IsSettledStop : {R : Type 0} → Reels R → (m n : Merges R) → (d u : DeskView) → Pen
    → PairStop
    → Type 0
IsSettledStop r m n d u pen (Compared first) = (pen.failed ≡ false)
    × IsFirstOfBoth r m.compared n.compared d first
IsSettledStop r m n d u pen (Trusted first) = (pen.failed ≡ false)
    × (IsFirstOfBoth r m.trusted n.trusted u first × AreReadSound r m.compared d)
IsSettledStop r m n d u pen Write = pen.failed ≡ true
