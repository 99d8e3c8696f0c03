-- The right answer over four texts is that of the run over both pairs, and what is asked for has an answer.
use Rattle.std.specs.Prelude.{ℕ, ◌≡◌, ◌≤◌, List, Result, Ok, Err, Some}
use Rattle.std.proofs.Common.{ap, arith, refl}
use Rattle.aide_conf.specs.Settings.{Configured}
use Rattle.aide_db.specs.Database.{IsSound}
use Rattle.aide_db.specs.declared.fault.DbFault.{DbFault}
use Rattle.aide_db.specs.declared.limits.Limits.{Limits}
use Rattle.aide_headline.specs.LineHeadline.{IsFirstOfPair, IsRightLineAnswer}
use Rattle.aide_merge.specs.Asked.{Asked}
use Rattle.aide_merge.specs.Outcomes.{outcome_over}
use Rattle.aide_merge.specs.RightAnswer.{Report, RunsOverBy}
use Rattle.aide_merge.specs.declared.run_fault.RunFault.{RunFault}
use Rattle.aide_merge.specs.declared.run_fault.RunFault.TheVariants.{Database}
use Rattle.aide_merge.proofs.RightAnswers.{RunsOverBy-exists}
use Rattle.aide_line_run.specs.RunEnds.{RunsLines}
use Rattle.aide_line_run.specs.Listed.{ListRead}
use Rattle.aide_line_run.specs.declared.pair_fault.PairFault.{PairFault}
use Rattle.aide_line_run.specs.declared.pair_fault.PairFault.TheVariants.{Compared, Trusted}
use Rattle.aide_site.specs.Answer.{Named, asked_by, limits}
use Rattle.aide_line_session.specs.AsksForLines.{AsksForLines}
use Rattle.aide_site.specs.Files.{Files}
use Rattle.aide_line_session.specs.LineAnswer.{IsLineAnswer, LineAnswer, trusted_of}
use Rattle.aide_line_session.proofs.LineExistence.{RunsLines-exists}
use Rattle.aide_line_session.proofs.LineLaws.{line_answer_by_what_is_asked}
use Rattle.aide_words.specs.LineJob.{LineJobText}

module _ (limits : Limits) (wish : Asked) (old new : List ℕ) where
  -- two sound texts have their outcome for their answer
  sound_runs : IsSound limits old → IsSound limits new
      → RunsOverBy limits (outcome_over wish.options) (Some old) (Some new) (Ok (outcome_over wish.options old new))
  sound_runs sound_old sound_new = (Ok (outcome_over wish.options old new), (sound_old, sound_new, refl), refl)

  -- the first fault of two texts is their answer
  fault_runs : (fault : RunFault) (first : DbFault) → fault ≡ Database first → IsFirstOfPair limits old new first
      → RunsOverBy limits (outcome_over wish.options) (Some old) (Some new) (Err fault)
  fault_runs fault first same is = (Err first, is, ap (λ (f : RunFault). Err f) same)

-- The right answer over four texts is what a run over both pairs has for its answer.
pub right_is_the_answer : (limits : Limits) (list : ListRead) (wish trusted_wish : Asked) (old new trusted_old trusted_new : List ℕ)
    (right : Result Report PairFault) → 14 ≤ limits.line
    → IsRightLineAnswer limits list wish trusted_wish old new trusted_old trusted_new right
    → RunsLines limits list wish trusted_wish (Some old) (Some new) (Some trusted_old) (Some trusted_new) right
right_is_the_answer limits list wish trusted_wish old new trusted_old trusted_new (Ok report) least is = record {
  compared = Ok (outcome_over wish.options old new);
  trusted = Ok (outcome_over trusted_wish.options trusted_old trusted_new);
  compared_runs = sound_runs limits wish old new is.0 is.1;
  trusted_runs = sound_runs limits trusted_wish trusted_old trusted_new is.2 is.3;
  answer = ap (λ (r : Report). Ok r) is.4;
}
right_is_the_answer limits list wish trusted_wish old new trusted_old trusted_new (Err (Compared fault)) least is =
    let other = RunsOverBy-exists limits (outcome_over trusted_wish.options) (Some trusted_old) (Some trusted_new) least in
    record {
      compared = Err fault;
      trusted = other.0;
      compared_runs = fault_runs limits wish old new fault is.0 is.1 is.2;
      trusted_runs = other.1;
      answer = refl;
    }
right_is_the_answer limits list wish trusted_wish old new trusted_old trusted_new (Err (Trusted fault)) least is = record {
  compared = Ok (outcome_over wish.options old new);
  trusted = Err fault;
  compared_runs = sound_runs limits wish old new is.0 is.1;
  trusted_runs = fault_runs limits trusted_wish trusted_old trusted_new fault is.2.0 is.2.1 is.2.2;
  answer = refl;
}

-- What is asked for has an answer.
pub asked_has_an_answer : {files trusted_files : Files} {words : List (List ℕ)} {job : LineJobText} {list : ListRead}
    {named : Named} {settings : Configured} {old new trusted_old trusted_new : List ℕ}
    → AsksForLines files trusted_files words job list named settings old new trusted_old trusted_new
    → (answer : LineAnswer) × IsLineAnswer files trusted_files job named answer
asked_has_an_answer {files} {trusted_files} {words} {job} {list} {named} {settings} {old} {new} {trusted_old} {trusted_new} asks =
    let right = RunsLines-exists limits list (asked_by settings.options named) (asked_by settings.options (trusted_of job)) (Some old)
    (Some new) (Some trusted_old) (Some trusted_new) (omega arith) in (
      _,
      line_answer_by_what_is_asked files trusted_files words job list named settings old new trusted_old trusted_new right.0 asks right.1,
    )
