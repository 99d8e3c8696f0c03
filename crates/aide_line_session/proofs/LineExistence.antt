-- There is an answer to a job of lines, where it is told what stands at the paths that are named.
use Rattle.std.proofs.Common.{◌≡◌, ◌∙◌, ℕ, ◌≤◌, List, Option, Some, None, ap, refl, arith, Ok, Err, inl, inr, rules}
use Rattle.std.specs.Prelude.{Result, ⊤}
use Rattle.std.proofs.Math.Path.{subst}
use Rattle.aide_conf.specs.Settings.{Configured}
use Rattle.aide_db.specs.declared.limits.Limits.{Limits}
use Rattle.aide_db.specs.declared.side.Side.TheVariants.{Old, New}
use Rattle.aide_patterns.proofs.Laws.{has_reading}
use Rattle.aide_patterns.specs.Line.{RuleText}
use Rattle.aide_patterns.specs.List.{IsReading}
use Rattle.aide_patterns.specs.code.Reading.{read_list}
use Rattle.aide_patterns.specs.declared.fault.ListFault.{ListFault}
use Rattle.aide_merge.specs.Asked.{Asked}
use Rattle.aide_merge.specs.Outcomes.{outcome_over}
use Rattle.aide_merge.specs.RightAnswer.{Report, RunsOverBy}
use Rattle.aide_merge.specs.declared.outcome.Outcome.{Outcome}
use Rattle.aide_merge.specs.declared.run_fault.RunFault.{RunFault}
use Rattle.aide_merge.proofs.RightAnswers.{RunsOverBy-exists}
use Rattle.aide_site.specs.Answer.{Named, asked_by, limits}
use Rattle.aide_line_session.specs.LineAnswer.{HasLineAnswer, IsLineAnswer, IsListedLineAnswer, TellsForLines}
use Rattle.aide_line_session.specs.LineAnswer.{LineAnswer, ComparesForLines, line_answer, lines_at_fault, refused_lines, trusted_of}
use Rattle.aide_site.specs.Files.{Files}
use Rattle.aide_site.specs.JobSettings.{AreSettings, HasRead, comparison_of, no_settings_line, no_settings_status}
use Rattle.aide_line_session.specs.GivenList.{list_line, list_of}
use Rattle.aide_site.proofs.AnswerSteps.{AreFound, settings_found}
use Rattle.aide_site.proofs.Closings.{only_config}
use Rattle.aide_site.proofs.Existence.{value_of}
use Rattle.aide_site.proofs.JobSettings.{both_named}
use Rattle.aide_line_run.specs.Lines.{lines_of_texts}
use Rattle.aide_line_run.specs.RunEnds.{RunsLines, answer_by, over_sides}
use Rattle.aide_line_run.specs.Listed.{ListRead}
use Rattle.aide_line_run.specs.declared.pair_fault.PairFault.{PairFault}
use Rattle.aide_line_run.specs.declared.pair_fault.PairFault.TheVariants.{Compared, Trusted}
use Rattle.aide_line_run.proofs.PairLemmas.{IsOkay}
use Rattle.aide_words.specs.LineJob.{LineJobText}

-- ---- four sides have a right answer

abbrev AreThere : (old new : Option (List ℕ)) → Type 0
AreThere (Some old) (Some new) = ⊤
AreThere _ _ = ⊥

refused_okay : (r : Result Outcome RunFault) (fault : RunFault) → r ≡ Err fault → IsOkay r → ⊥
refused_okay r fault is okay = subst IsOkay is okay

-- an answer without a fault is one over two texts
both_there : (bounds : Limits) (over : List ℕ → List ℕ → Outcome) (old new : Option (List ℕ)) (r : Result Outcome RunFault)
    → RunsOverBy bounds over old new r → IsOkay r → AreThere old new
both_there bounds over None new r runs okay = absurd (refused_okay r _ runs okay)
both_there bounds over (Some old) None r runs okay = search (rules, refused_okay)
both_there bounds over (Some old) (Some new) r runs okay = tt

abbrev IsWhole : Option Report → Type 0
IsWhole None = ⊥
IsWhole (Some report) = ⊤

whole : (over : List ℕ → List ℕ → List ℕ → List ℕ → Report) (old new trusted_old trusted_new : Option (List ℕ))
    → AreThere old new → AreThere trusted_old trusted_new → IsWhole (over_sides over old new trusted_old trusted_new)
whole over None new trusted_old trusted_new there trusted_there = absurd there
whole over (Some old) None trusted_old trusted_new there trusted_there = absurd there
whole over (Some old) (Some new) None trusted_new there trusted_there = absurd trusted_there
whole over (Some old) (Some new) (Some trusted_old) None there trusted_there = absurd trusted_there
whole over (Some old) (Some new) (Some trusted_old) (Some trusted_new) there trusted_there = tt

answer_exists : (compared trusted : Result Outcome RunFault) (over : Option Report) → (IsOkay compared → IsOkay trusted → IsWhole over)
    → (r : Result Report PairFault) × answer_by compared trusted over r
answer_exists (Err fault) trusted over whole = (Err (Compared fault), refl)
answer_exists (Ok outcome) (Err fault) over whole = (Err (Trusted fault), refl)
answer_exists (Ok outcome) (Ok other) None whole = absurd (whole tt tt)
answer_exists (Ok outcome) (Ok other) (Some over) whole = (Ok over, refl)

-- What is at four sides has a right answer.
pub RunsLines-exists : (bounds : Limits) (list : ListRead) (wish trusted_wish : Asked) (old new trusted_old trusted_new : Option (List ℕ))
    → 14 ≤ bounds.line → (r : Result Report PairFault) × RunsLines bounds list wish trusted_wish old new trusted_old trusted_new r
RunsLines-exists bounds list wish trusted_wish old new trusted_old trusted_new least =
    let compared = RunsOverBy-exists bounds (outcome_over wish.options) old new least in
    let trusted = RunsOverBy-exists bounds (outcome_over trusted_wish.options) trusted_old trusted_new least in
    let r = answer_exists compared.0 trusted.0 (over_sides (lines_of_texts list wish trusted_wish) old new trusted_old trusted_new)
    (λ okay other. whole (lines_of_texts list wish trusted_wish) old new trusted_old trusted_new
    (both_there bounds (outcome_over wish.options) old new compared.0 compared.1 okay)
    (both_there bounds (outcome_over trusted_wish.options) trusted_old trusted_new trusted.0 trusted.1 other)) in (
      r.0,
      record {
        compared = compared.0;
        trusted = trusted.0;
        compared_runs = compared.1;
        trusted_runs = trusted.1;
        answer = r.1;
      },
    )

-- ---- a job has an answer

module _ (files trusted_files : Files) (job : LineJobText) (list : ListRead) (tells : TellsForLines files trusted_files job) where
  -- an answer over what was read of the list
  abbrev HasListedAnswer : Type 0
  HasListedAnswer = (named : Named) × (a : LineAnswer) × (named.config ≡ job.config)
      × IsListedLineAnswer files trusted_files job list named a

  of_settings : (s : Configured) → AreSettings files (comparison_of job) (Ok s) → HasRead files (comparison_of job) (Ok s)
      → HasListedAnswer
  of_settings s are has =
      let both = both_named files (comparison_of job) s refl has in
      let old_path = value_of s.old_path both.0 in
      let new_path = value_of s.new_path both.1 in
      let named : Named = record { config = job.config; old_path = old_path.0; new_path = new_path.0 } in
      let known : files job.config ≡ Some (Some has.text) =
      are.known ∙ ap (λ (o : Option (List ℕ)). Some o) (has.text_is are.file are.known) in
      let old = tells.databases has.text known s has.reads old_path.0 (inl old_path.1) in
      let new = tells.databases has.text known s has.reads new_path.0 (inr new_path.1) in
      let trusted_old = tells.trusted Old in
      let trusted_new = tells.trusted New in
      let run = RunsLines-exists limits list (asked_by s.options named) (asked_by s.options (trusted_of job)) old.0 new.0 trusted_old.0
      trusted_new.0 (omega arith) in
      let a = line_answer (lines_at_fault list (asked_by s.options named) (asked_by s.options (trusted_of job)) old.0 new.0 trusted_old.0
      trusted_new.0) named (trusted_of job) run.0 in
      let compares : ComparesForLines files trusted_files job list s named a = record {
        old_is = old_path.1;
        new_is = new_path.1;
        old_file = old.0;
        new_file = new.0;
        trusted_old_file = trusted_old.0;
        trusted_new_file = trusted_new.0;
        old_told = old.1;
        new_told = new.1;
        trusted_old_told = trusted_old.1;
        trusted_new_told = trusted_new.1;
        run = run.0;
        runs = run.1;
        then_is = refl;
      } in
      (named, a, refl, record { settings = Ok s; are = are; then_is = compares })

  listed_answer : AreFound files (comparison_of job) → HasListedAnswer
  listed_answer (inl none) = (
    only_config job.config,
    refused_lines (no_settings_line job.config none.0) (no_settings_status none.0),
    refl,
    record { settings = Err none.0; are = none.1; then_is = refl },
  )
  listed_answer (inr found) = of_settings found.0 found.1 found.2

-- a job has an answer where it is told what stands at the paths that are named
pub lines_answered : (files trusted_files : Files) (job : LineJobText) → TellsForLines files trusted_files job
    → HasLineAnswer files trusted_files job
lines_answered files trusted_files job tells = go (read_list job.without) (has_reading job.without)
  where
    go : (reading : Result (List RuleText) ListFault) → IsReading job.without reading → HasLineAnswer files trusted_files job
    go (Ok rules) reads =
        let answer = listed_answer files trusted_files job (list_of job.without rules) tells
        (settings_found files (comparison_of job) tells.config.0 tells.config.1) in
        let is : IsLineAnswer files trusted_files job answer.0 answer.1 =
        record { config_is = answer.2; reading = Ok rules; list_reads = reads; then_is = answer.3 } in
        (answer.0, answer.1, is)
    go (Err fault) reads =
        let named = only_config job.config in
        let a = refused_lines (list_line fault) 17 in
        let is : IsLineAnswer files trusted_files job named a =
        record { config_is = refl; reading = Err fault; list_reads = reads; then_is = refl } in
        (named, a, is)
