-- What is true of the changes that merges have still to give, if the texts of their databases are known.
use Rattle.std.specs.Prelude.{◌≡◌, ◌⊎◌, ℕ, List, ◌++◌, Option, Result, Ok, Err, true}
use Rattle.std.specs.FinMap.Entries.{is_sorted}
use Rattle.aide_conf.specs.declared.options.Options.{Options}
use Rattle.aide_db.specs.DeskView.{DeskView}
use Rattle.aide_db.specs.declared.reel.Reel.{Ghosts as Reels}
use Rattle.aide_db.specs.declared.side.Side.{Side}
use Rattle.aide_db.specs.declared.side.Side.TheVariants.{Old, New}
use Rattle.aide_fields.specs.Path.{path_cmp}
use Rattle.aide_line_run.specs.BeforeFault.{EndsAtFault}
use Rattle.aide_line_run.specs.ChangeLines.{change_lines}
use Rattle.aide_merge.specs.Said.{PathChange}
use Rattle.aide_merge.specs.code.Merging.{StandsAt, limits_at, remaining}
use Rattle.aide_merge.specs.declared.merge.Merge.{Merge}
use Rattle.aide_line_run.specs.Listed.{Leaves, ListRead, leaves_between}
use Rattle.aide_line_run.specs.Sought.{Accounted, accounted_lines, changes_of, sought_by}
use Rattle.aide_line_run.specs.declared.walk.Merges.{Merges}

-- a text that the cursor of a side represents, or what of it comes before its first fault
abbrev pub ReadsUpTo : {R : Type 0} → (R → Option (List ℕ)) → Merge R → DeskView → Side → List ℕ
    → Type 0
ReadsUpTo to_come m desk side front = (text : List ℕ) × StandsAt to_come m desk side text
    × ((front ≡ text) ⊎ EndsAtFault (limits_at m side) text front)

-- of the changes of one merge
abbrev pub OverMerge : {R : Type 0} → Reels R → Merge R → DeskView → (List PathChange → Type 0)
    → Type 0
OverMerge r merge desk Is = (old new : List ℕ) → ReadsUpTo r.to_come merge desk Old old
    → ReadsUpTo r.to_come merge desk New new
    → Is (remaining merge desk old new)

-- of the changes of two merges and of what a list leaves out, if the changes of the first one are in path order
abbrev pub OverMerges : {R : Type 0} → Reels R → ListRead → Merge R → DeskView → Merge R
    → DeskView → (Leaves → (changes trusted_changes : List PathChange) → Type 0)
    → Type 0
OverMerges r list merge desk trusted trusted_desk Is = (old new trusted_old trusted_new : List ℕ)
    → ReadsUpTo r.to_come merge desk Old old → ReadsUpTo r.to_come merge desk New new
    → ReadsUpTo r.to_come trusted trusted_desk Old trusted_old
    → ReadsUpTo r.to_come trusted trusted_desk New trusted_new
    → is_sorted path_cmp (remaining merge desk old new) ≡ true
    → Is (leaves_between list old new) (remaining merge desk old new)
    (remaining trusted trusted_desk trusted_old trusted_new)

-- all of a list after `Ok`, and after a fault its beginning
abbrev pub IsDone : {X E A : Type 0} → Result X E → (done all : List A) → Type 0
IsDone (Ok answer) done all = all ≡ done
IsDone {A = A} (Err fault) done all = (rest : List A) × (all ≡ done ++ rest)

-- What has been done of the changes of both pairs.
pub record AreDone {R X E : Type 0} (r : Reels R) (list : ListRead) (options : Options)
    (m : Merges R) (d u : DeskView) (done : List Accounted) (result : Result X E) : Type 0 where
  -- it is of the changes of the compared pair
  pub changes : OverMerge r m.compared d (λ all. IsDone result (changes_of done) all)
  -- if they are in path order, their entries, those of the trusted pair at their paths, or the list account for them
  pub lines : OverMerges r list m.compared d m.trusted u (λ leaves all trusted_changes.
      IsDone result
      (accounted_lines options done) (change_lines options (sought_by leaves trusted_changes) all))
