use Rattle.std.proofs.Common.{inl, inr, refl}
use Rattle.std.specs.Prelude.{Some, Ok, Err}
use Rattle.aide_merge.specs.Asked.{asked}
use Rattle.aide_merge.specs.RightAnswer.{run_answer}
use Rattle.aide_report_specs.specs.Runs.{report_over}
use Rattle.aide_headline.proofs.Laws.{ends_with_the_right_answer}
use Rattle.aide_headline.proofs.comparison.compare_databases.Goals as goal

pub returns-clause-report : goal.returns-clause-report
returns-clause-report g c old new told_old told_new site out sound_old sound_new =
    let right = Ok (report_over (asked c.args.task.now) old new) in
    ends_with_the_right_answer old new site out right c.run.result _ _ (c.run.ensures.memory c.requires.room)
    (c.run.ensures.over (Some old) (Some new) told_old told_new (run_answer right) (right, (sound_old, sound_new, refl), refl))

pub returns-clause-old_fault : goal.returns-clause-old_fault
returns-clause-old_fault g c old new told_old told_new site out fault first =
    ends_with_the_right_answer old new site out (Err fault) c.run.result _ _ (c.run.ensures.memory c.requires.room)
    (c.run.ensures.over (Some old) (Some new) told_old told_new (run_answer (Err fault)) (Err fault, inl first, refl))

pub returns-clause-new_fault : goal.returns-clause-new_fault
returns-clause-new_fault g c old new told_old told_new site out fault sound first =
    ends_with_the_right_answer old new site out (Err fault) c.run.result _ _ (c.run.ensures.memory c.requires.room)
    (c.run.ensures.over (Some old) (Some new) told_old told_new (run_answer (Err fault)) (Err fault, inr (sound, first), refl))
