-- From the right answer over two texts to that over what stands at both sides.
use Rattle.std.specs.Prelude.{◌≡◌, ℕ, Bool, true, false, Option, Some, None, Result, List}
use Rattle.std.proofs.Common.{sym, subst, ◌∙◌}
use Rattle.aide_db.specs.declared.fault.DbFault.{DbFault}
use Rattle.aide_db.specs.declared.limits.Limits.{Limits}
use Rattle.aide_db.specs.declared.side.Side.{Side}
use Rattle.aide_db.specs.declared.side.Side.TheVariants.{Old, New}
use Rattle.aide_merge.specs.RightAnswer.{TellsSide, RunsOverBy, run_answer, RunsBy}
use Rattle.aide_merge.specs.declared.run_fault.RunFault.{RunFault}

pub true_false : true ≡ false → ⊥
true_false e = cc

-- what is so of the right answer over both texts is so of that over what stands at both sides, where both are there
pub over_texts : {X : Type 0} (limits : Limits) (over : List ℕ → List ℕ → X) (bytes_of : Side → Option (List ℕ))
    (is_missing : Side → Bool) (old new : Option (List ℕ)) (P : Result X RunFault → Type 0)
    → TellsSide (bytes_of Old) (is_missing Old) old → TellsSide (bytes_of New) (is_missing New) new
    → ((side : Side) → is_missing side ≡ false)
    → ((old_text new_text : List ℕ) → bytes_of Old ≡ Some old_text → bytes_of New ≡ Some new_text
    → (run : Result X DbFault) → RunsBy limits over old_text new_text run → P (run_answer run))
    → (r : Result X RunFault) → RunsOverBy limits over old new r → P r
over_texts limits over bytes_of is_missing None new P told told_new there all r runs =
    absurd (true_false (sym told ∙ there Old))
over_texts limits over bytes_of is_missing (Some old) None P told told_new there all r runs =
    absurd (true_false (sym told_new ∙ there New))
over_texts limits over bytes_of is_missing (Some old) (Some new) P told told_new there all r runs =
    subst P (sym runs.2) (all old new told told_new runs.0 runs.1)
