-- After `Ok` all lines of the answer over four texts have been written.
use Rattle.std.specs.Prelude.{◌≡◌, ℕ, Option, Some, None, Result, Ok, Err, List}
use Rattle.std.proofs.Common.{◌∙◌, subst, sym}
use Rattle.std.specs.Io.KnownBytes.{Appends}
use Rattle.aide_db.specs.DeskView.{DeskView}
use Rattle.aide_db.specs.declared.limits.Limits.{Limits}
use Rattle.aide_db.specs.declared.reel.Reel.{Ghosts as Reels}
use Rattle.aide_db.specs.declared.side.Side.TheVariants.{Old, New}
use Rattle.aide_merge.specs.Asked.{Asked}
use Rattle.aide_line_run.specs.LineCounts.{line_outcome}
use Rattle.aide_merge.specs.Outcomes.{outcome_over}
use Rattle.aide_merge.specs.RightAnswer.{Report, TellsSide}
use Rattle.aide_merge.specs.Seen.{Seen}
use Rattle.aide_merge.specs.declared.outcome.Outcome.{Outcome}
use Rattle.aide_merge.specs.declared.run_fault.RunFault.{RunFault}
use Rattle.aide_line_run.specs.Lines.{lines_of_texts}
use Rattle.aide_line_run.specs.RunEnds.{RunsLines, SendsWholeOf, answer_by}
use Rattle.aide_line_run.specs.Listed.{ListRead}
use Rattle.aide_line_run.specs.code.Readings.{AreOpened}
use Rattle.aide_line_run.specs.code.Written.{HasToldAll}
use Rattle.aide_line_run.specs.declared.pair_fault.PairFault.{PairFault}
use Rattle.aide_line_run.specs.declared.walk.Merges.{Merges}
use Rattle.aide_line_run.specs.declared.write.PairsFound.{PairsFound}
use Rattle.aide_line_run.proofs.PairLemmas.{IsOkay, okay_over}
use Rattle.aide_line_run.proofs.EndLemmas.{all_sound, compared_read, outcome_is, told_is, trusted_read, true_false}

okay_answer : (compared trusted : Result Outcome RunFault) (whole : Report) (r : Result Report PairFault) → IsOkay compared → IsOkay trusted
    → answer_by compared trusted (Some whole) r → r ≡ Ok whole
okay_answer (Err fault) trusted whole r okay other is = absurd okay
okay_answer (Ok outcome) (Err fault) whole r okay other is = absurd other
okay_answer (Ok outcome) (Ok second) whole r okay other is = is

whole_as : (r : Result Report PairFault) (whole : Report) (outcome : Outcome) (before after : Option (List ℕ)) → r ≡ Ok whole
    → (whole.outcome ≡ outcome) × Appends before after whole.text → SendsWholeOf r outcome before after
whole_as r whole outcome before after is ends =
    subst (λ (x : Result Report PairFault). SendsWholeOf x outcome before after) (sym is) ends

-- after `Ok` the whole answer has gone out
pub ends_whole : {R : Type 0} {r : Reels R} {limits : Limits} {a b s t : Seen} {m n : Merges R} {e f v w : DeskView}
    {found : PairsFound} (p : AreOpened r limits a b e m.compared) (q : AreOpened r limits s t v m.trusted)
    (list : ListRead) (wish trusted_wish : Asked) (before after : Option (List ℕ))
    → HasToldAll r list wish trusted_wish m n e f v w found (Appends before after)
    → (old new trusted_old trusted_new : Option (List ℕ))
    → TellsSide (a.bytes_of Old) (a.is_missing Old) old × TellsSide (a.bytes_of New) (a.is_missing New) new
    → TellsSide (s.bytes_of Old) (s.is_missing Old) trusted_old × TellsSide (s.bytes_of New) (s.is_missing New) trusted_new
    → (r : Result Report PairFault) → RunsLines limits list wish trusted_wish old new trusted_old trusted_new r
    → SendsWholeOf r (line_outcome found.counts found.compared.skipped_old found.compared.skipped_new) before after
ends_whole p q list wish trusted_wish before after told None new trusted_old trusted_new tells trusted_tells r runs =
    absurd (true_false (sym tells.0 ∙ p.there Old))
ends_whole p q list wish trusted_wish before after told (Some old) None trusted_old trusted_new tells trusted_tells r runs =
    absurd (true_false (sym tells.1 ∙ p.there New))
ends_whole p q list wish trusted_wish before after told (Some old) (Some new) None trusted_new tells trusted_tells r runs =
    absurd (true_false (sym trusted_tells.0 ∙ q.there Old))
ends_whole p q list wish trusted_wish before after told (Some old) (Some new) (Some trusted_old) None tells trusted_tells r runs =
    absurd (true_false (sym trusted_tells.1 ∙ q.there New))
ends_whole {limits = limits} {a = a} {s = s} p q list wish trusted_wish before after told (Some old) (Some new) (Some trusted_old)
    (Some trusted_new) tells trusted_tells r runs =
    let read = compared_read p q told.read in
    let trusted_read = trusted_read p q told.read in
    let sound = all_sound p q list wish trusted_wish old new trusted_old trusted_new tells.0 tells.1 trusted_tells.0 trusted_tells.1
    told.read in
    whole_as r (lines_of_texts list wish trusted_wish old new trusted_old trusted_new) _ before after
    (okay_answer runs.compared runs.trusted (lines_of_texts list wish trusted_wish old new trusted_old trusted_new) r
    (okay_over limits (outcome_over wish.options) a.bytes_of a.is_missing (Some old) (Some new) tells.0 tells.1
    read.there read.sound runs.compared runs.compared_runs)
    (okay_over limits (outcome_over trusted_wish.options) s.bytes_of s.is_missing (Some trusted_old) (Some trusted_new)
    trusted_tells.0 trusted_tells.1 trusted_read.there trusted_read.sound runs.trusted runs.trusted_runs)
    runs.answer) (
      outcome_is p q list wish trusted_wish old new trusted_old trusted_new tells.0 tells.1 trusted_tells.0 trusted_tells.1 sound told,
      subst (λ text. Appends before after text)
          (told_is p q list wish trusted_wish old new trusted_old trusted_new tells.0 tells.1 trusted_tells.0 trusted_tells.1 sound told)
          told.goes,
    )
