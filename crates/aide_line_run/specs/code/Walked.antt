-- What a walk over both pairs keeps, and what it has written and counted.
use Rattle.std.specs.Prelude.{◌≡◌, ◌<◌, ◌^◌, ℕ, List, ◌++◌, Result, IfOk, false, true}
use Rattle.std.specs.FinMap.Entries.{is_sorted}
use Rattle.aide_conf.specs.declared.options.Options.{Options}
use Rattle.aide_db.specs.DeskView.{DeskView}
use Rattle.aide_db.specs.declared.reel.Reel.{Ghosts as Reels}
use Rattle.aide_db.specs.declared.side.Side.TheVariants.{Old, New}
use Rattle.aide_fields.specs.Path.{path_cmp}
use Rattle.aide_line_text.specs.declared.counts.LineCounts.{LineCounts}
use Rattle.aide_line_run.specs.code.LineTally.{sum_of_counts, tally}
use Rattle.aide_merge.specs.code.MergeCalls.{KeepsMerge}
use Rattle.aide_merge.specs.code.Merging.{IsEnded, IsReady, IsWithinLimits, remaining, total_work}
use Rattle.aide_text.specs.Sheet.{Sheet, Wrote}
use Rattle.aide_text.specs.declared.pen.Pen.{Pen}
use Rattle.aide_line_run.specs.Listed.{ListRead, leaves_between}
use Rattle.aide_line_run.specs.Sought.{Accounted, accounted_lines, all_sought, changes_of}
use Rattle.aide_line_run.specs.Sought.{sought_by}
use Rattle.aide_line_run.specs.code.Over.{AreDone, OverMerges, ReadsUpTo}
use Rattle.aide_line_run.specs.code.Tallied.{tally_of}
use Rattle.aide_line_run.specs.declared.walk.Merges.{Merges}

-- both merges can be read, the counts can count their changes, and no write has failed
pub record CanWalk {R : Type 0} (m : Merges R) (d u : DeskView) (pen : Pen) : Type 0 where
  pub ready : IsReady m.compared d
  pub trusted_ready : IsReady m.trusted u
  pub within : IsWithinLimits m.compared
  pub trusted_within : IsWithinLimits m.trusted
  pub short : total_work m.compared < 2 ^ 62
  pub writes_on : pen.failed ≡ false

-- what is kept of each merge and of its desk
pub record KeepsMerges {R : Type 0} (r : Reels R) (m n : Merges R)
    (d e u v : DeskView) : Type 0 where
  pub compared : KeepsMerge r m.compared n.compared d e
  pub trusted : KeepsMerge r m.trusted n.trusted u v

-- the compared pair was read to its ends, and no write has failed
pub record IsAtEnd {R : Type 0} (m : Merges R) (d u : DeskView) (pen : Pen) : Type 0 where
  pub ready : IsReady m.compared d
  pub trusted_ready : IsReady m.trusted u
  pub ended : IsEnded m.compared
  pub writes_on : pen.failed ≡ false

-- both pairs were
pub record HasEnded {R : Type 0} (m : Merges R) (pen : Pen) : Type 0 where
  pub ended : IsEnded m.compared
  pub trusted_ended : IsEnded m.trusted
  pub writes_on : pen.failed ≡ false

-- In the midst of a walk that began with `m`: what was written and counted.
pub record IsWalking {R : Type 0} (r : Reels R) (list : ListRead) (options : Options)
    (m n : Merges R) (d e u v : DeskView) (counts : LineCounts) (a b : Sheet) : Type 0 where
  pub done : List Accounted
  pub wrote : Wrote (accounted_lines options done) a b
  pub counted : counts ≡ tally_of options done
  -- with what is still to come it is the whole
  pub changes : (old new : List ℕ) → ReadsUpTo r.to_come m.compared d Old old
      → ReadsUpTo r.to_come m.compared d New new
      → remaining m.compared d old new ≡ changes_of done ++ remaining n.compared e old new
  pub lines : (old new trusted_old trusted_new : List ℕ)
      → ReadsUpTo r.to_come m.compared d Old old → ReadsUpTo r.to_come m.compared d New new
      → ReadsUpTo r.to_come m.trusted u Old trusted_old
      → ReadsUpTo r.to_come m.trusted u New trusted_new
      → is_sorted path_cmp (remaining m.compared d old new) ≡ true
      → accounted_lines options
      (all_sought (leaves_between list old new) (remaining m.compared d old new)
      (remaining m.trusted u trusted_old trusted_new))
      ≡ accounted_lines options done ++ accounted_lines options
      (all_sought (leaves_between list old new) (remaining n.compared e old new)
      (remaining n.trusted v trusted_old trusted_new))
  pub tallies : (old new trusted_old trusted_new : List ℕ)
      → ReadsUpTo r.to_come m.compared d Old old → ReadsUpTo r.to_come m.compared d New new
      → ReadsUpTo r.to_come m.trusted u Old trusted_old
      → ReadsUpTo r.to_come m.trusted u New trusted_new
      → is_sorted path_cmp (remaining m.compared d old new) ≡ true
      → sum_of_counts counts (tally_of options
      (all_sought (leaves_between list old new) (remaining n.compared e old new)
      (remaining n.trusted v trusted_old trusted_new)))
      ≡ tally_of options (all_sought (leaves_between list old new) (remaining m.compared d old new)
      (remaining m.trusted u trusted_old trusted_new))
  pub sorted : (old new : List ℕ) → ReadsUpTo r.to_come m.compared d Old old
      → ReadsUpTo r.to_come m.compared d New new
      → is_sorted path_cmp (remaining m.compared d old new) ≡ true
      → is_sorted path_cmp (remaining n.compared e old new) ≡ true

-- What a walk has written and counted: the lines of the changes that it has met, behind these first bytes.
pub record HasWalked {R X E : Type 0} (r : Reels R) (list : ListRead) (options : Options)
    (first : List ℕ) (counts_in : X → LineCounts) (m : Merges R) (d u : DeskView) (a b : Sheet)
    (result : Result X E) : Type 0 where
  pub done : List Accounted
  pub are : AreDone r list options m d u done result
  pub wrote : Wrote (first ++ accounted_lines options done) a b
  pub counted : IfOk result (λ answer. counts_in answer ≡ tally_of options done)
  pub counts : IfOk result (λ answer. OverMerges r list m.compared d m.trusted u
      (λ leaves all trusted_changes.
      counts_in answer ≡ tally options (sought_by leaves trusted_changes) all))
