-- What the calls do by which a trusted pair is read together with another pair.
use Rattle.std.specs.Prelude.{ℕ, ◌≡◌, true, false, List}
use Rattle.aide_db.specs.DeskView.{DeskView}
use Rattle.aide_db.specs.declared.reel.Reel.{Ghosts as Reels}
use Rattle.aide_db.specs.declared.side.Side.TheVariants.{Old, New}
use Rattle.aide_text.specs.declared.pen.Pen.{Pen}
use Rattle.aide_merge.specs.code.MergeCalls.{IsMergeFault}
use Rattle.aide_merge.specs.code.Merging.{IsNotDue, IsReady, IsWithinLimits, remaining}
use Rattle.aide_merge.specs.declared.merge.Merge.{Merge}
use Rattle.aide_line_run.specs.Sought.{seek}
use Rattle.aide_line_run.specs.code.Over.{ReadsUpTo}
use Rattle.aide_line_run.specs.declared.walk.Merges.{Merges}
use Rattle.aide_line_run.specs.declared.walk.PairStop.{PairStop}
use Rattle.aide_line_run.specs.declared.walk.PairStop.TheVariants.{Compared, Trusted, Write}

-- A merge has come to the first path that is not before this one.
pub record IsSought {R : Type 0} (r : Reels R) (path : List ℕ) (m n : Merge R)
    (d e : DeskView) : Type 0 where
  -- the next path can be looked at
  pub ready : IsReady n e
  pub not_due : IsNotDue n
  pub within : IsWithinLimits n
  -- the changes that are still to come are those from that path on
  pub same : (old new : List ℕ) → ReadsUpTo r.to_come m d Old old → ReadsUpTo r.to_come m d New new
      → remaining n e old new ≡ seek path (remaining m d old new)

-- Why a walk over both pairs stopped: a fault of either merge while every write succeeded, or a failed write.
abbrev pub IsPairStop : {R : Type 0} → Reels R → (m n : Merges R) → (d u : DeskView) → Pen
    → PairStop
    → Type 0
IsPairStop r m n d u pen (Compared fault) = (pen.failed ≡ false)
    × IsMergeFault r m.compared n.compared d fault
IsPairStop r m n d u pen (Trusted fault) = (pen.failed ≡ false)
    × IsMergeFault r m.trusted n.trusted u fault
IsPairStop r m n d u pen Write = pen.failed ≡ true
