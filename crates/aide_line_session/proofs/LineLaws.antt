-- What the answer to a job of lines is, from what a caller knows of the arguments and of the files, and that
-- there is one and only one.
use Rattle.std.specs.Prelude.{◌≡◌, ℕ, Option, Some, None, List, Result, Ok, Err, Bool}
use Rattle.std.proofs.Common.{◌∙◌, refl, sym, rules}
use Rattle.std.proofs.Math.Path.{subst}
use Rattle.aide_conf.specs.Settings.{Configured}
use Rattle.aide_db.specs.declared.limits.Limits.{Limits}
use Rattle.aide_patterns.proofs.Laws.{one_reading}
use Rattle.aide_patterns.specs.Line.{RuleText}
use Rattle.aide_patterns.specs.List.{HasFirstFault}
use Rattle.aide_patterns.specs.declared.fault.ListFault.{ListFault}
use Rattle.aide_merge.specs.Asked.{Asked}
use Rattle.aide_merge.specs.Outcomes.{outcome_over}
use Rattle.aide_merge.specs.RightAnswer.{Report}
use Rattle.aide_merge.specs.declared.outcome.Outcome.{Outcome}
use Rattle.aide_merge.specs.declared.run_fault.RunFault.{RunFault}
use Rattle.aide_merge.proofs.RightAnswers.{RunsOverBy-unique}
use Rattle.aide_site.specs.Answer.{Named, asked_by, limits}
use Rattle.aide_line_session.specs.AsksForLines.{AsksForLines}
use Rattle.aide_line_session.specs.LineAnswer.{ComparesForLines, HasLineAnswer, IsGivenLineAnswer, IsLineAnswer, IsListedLineAnswer}
use Rattle.aide_line_session.specs.LineAnswer.{IsSettingsLineAnswer}
use Rattle.aide_line_session.specs.LineAnswer.{LineAnswer, TellsForLines, line_answer, lines_at_fault, refused_lines, trusted_of}
use Rattle.aide_site.specs.Files.{Files}
use Rattle.aide_site.specs.JobSettings.{AreOfText, comparison_of}
use Rattle.aide_site.specs.declared.job_config.NoSettings.{NoSettings}
use Rattle.aide_line_session.specs.GivenList.{list_line, list_of}
use Rattle.aide_line_session.proofs.LineExistence.{lines_answered}
use Rattle.aide_line_session.proofs.LineEndings.{list_is}
use Rattle.aide_site.proofs.AnswerSteps.{one_file, one_settings}
use Rattle.aide_site.proofs.Endings.{same_some}
use Rattle.aide_line_run.specs.Lines.{lines_of_texts}
use Rattle.aide_line_run.specs.RunEnds.{RunsLines, answer_by, over_sides}
use Rattle.aide_line_run.specs.Listed.{ListRead}
use Rattle.aide_line_run.specs.declared.pair_fault.PairFault.{PairFault}
use Rattle.aide_words.specs.LineJob.{LineJobText}

-- If the arguments ask for a comparison of two texts and of two trusted ones, the right answer over the four texts is the
-- answer to the arguments.
pub line_answer_by_what_is_asked : (files trusted_files : Files) (words : List (List ℕ)) (job : LineJobText)
    (list : ListRead) (named : Named) (settings : Configured) (old new trusted_old trusted_new : List ℕ) (run : Result Report PairFault)
    → AsksForLines files trusted_files words job list named settings old new trusted_old trusted_new
    → RunsLines limits list (asked_by settings.options named) (asked_by settings.options (trusted_of job))
    (Some old) (Some new) (Some trusted_old) (Some trusted_new) run
    → IsLineAnswer files trusted_files job named (line_answer
    (lines_at_fault list (asked_by settings.options named) (asked_by settings.options (trusted_of job))
    (Some old) (Some new) (Some trusted_old) (Some trusted_new)) named (trusted_of job) run)
line_answer_by_what_is_asked files trusted_files words job list named settings old new trusted_old trusted_new run asks runs =
    let a = line_answer (lines_at_fault list (asked_by settings.options named) (asked_by settings.options (trusted_of job))
    (Some old) (Some new) (Some trusted_old) (Some trusted_new)) named (trusted_of job) run in
    let compared : ComparesForLines files trusted_files job list settings named a = record {
      old_is = asks.old_path;
      new_is = asks.new_path;
      old_file = Some old;
      new_file = Some new;
      trusted_old_file = Some trusted_old;
      trusted_new_file = Some trusted_new;
      old_told = asks.old_there;
      new_told = asks.new_there;
      trusted_old_told = asks.trusted_old_there;
      trusted_new_told = asks.trusted_new_there;
      run = run;
      runs = runs;
      then_is = refl;
    } in
    let of_list : IsListedLineAnswer files trusted_files job list named a = record {
      settings = Ok settings;
      are = record {
        file = Some asks.config;
        known = asks.config_there;
        are = subst (λ (b : Bool). AreOfText (comparison_of job) asks.config b (Ok settings)) (sym asks.small)
            (Ok settings, asks.accepted, refl);
      };
      then_is = compared;
    } in
    record {
      config_is = asks.config_is;
      reading = Ok list.rules;
      list_reads = asks.listed.rules;
      then_is = subst (λ (l : ListRead). IsListedLineAnswer files trusted_files job l named a)
          (sym (list_is job.without list asks.listed)) of_list;
    }

-- If it is known what is at the paths that are named, the job has an answer.
pub a_line_job_has_an_answer : (files trusted_files : Files) (job : LineJobText) → TellsForLines files trusted_files job
    → HasLineAnswer files trusted_files job
a_line_job_has_an_answer = lines_answered

-- The first fault of the list is the answer, whatever is at the paths.
pub a_fault_of_the_list_is_the_answer : (files trusted_files : Files) (job : LineJobText) (named : Named) (fault : ListFault)
    → named.config ≡ job.config → HasFirstFault job.without fault
    → IsLineAnswer files trusted_files job named (refused_lines (list_line fault) 17)
a_fault_of_the_list_is_the_answer files trusted_files job named fault config_is refused =
    record { config_is = config_is; reading = Err fault; list_reads = refused; then_is = refl }

-- ---- there is only one

one_answer_by : (compared trusted : Result Outcome RunFault) (over : Option Report) (r s : Result Report PairFault)
    → answer_by compared trusted over r → answer_by compared trusted over s → r ≡ s
one_answer_by (Err fault) trusted over r s p q = p ∙ sym q
one_answer_by (Ok outcome) (Err fault) over r s p q = p ∙ sym q
one_answer_by (Ok outcome) (Ok other) None r s p q = absurd p
one_answer_by (Ok outcome) (Ok other) (Some over) r s p q = p ∙ sym q

-- What is at four sides has only one right answer.
pub four_sides_have_one_answer : (limits : Limits) (list : ListRead) (wish trusted_wish : Asked)
    (old new trusted_old trusted_new : Option (List ℕ))
    (r s : Result Report PairFault)
    → RunsLines limits list wish trusted_wish old new trusted_old trusted_new r
    → RunsLines limits list wish trusted_wish old new trusted_old trusted_new s → r ≡ s
four_sides_have_one_answer limits list wish trusted_wish old new trusted_old trusted_new r s p q =
    let over = over_sides (lines_of_texts list wish trusted_wish) old new trusted_old trusted_new in
    let compared = RunsOverBy-unique limits (outcome_over wish.options) old new q.compared p.compared q.compared_runs p.compared_runs in
    let trusted = RunsOverBy-unique limits (outcome_over trusted_wish.options) trusted_old trusted_new q.trusted p.trusted
    q.trusted_runs p.trusted_runs in
    one_answer_by p.compared p.trusted over r s p.answer
    (subst (λ (t : Result Outcome RunFault). answer_by p.compared t over s) trusted
    (subst (λ (c : Result Outcome RunFault). answer_by c q.trusted over s) compared q.answer))

module _ (files trusted_files : Files) (job : LineJobText) (list : ListRead) where
  -- the same settings and the same configuration name the same paths
  same_named : (s : Configured) (named other : Named) (a b : LineAnswer) → other.config ≡ named.config
      → ComparesForLines files trusted_files job list s named a → ComparesForLines files trusted_files job list s other b → other ≡ named
  same_named s named other a b same p q = search (rules, same_some)

  one_comparison : (s : Configured) (named : Named) (a b : LineAnswer) → ComparesForLines files trusted_files job list s named a
      → ComparesForLines files trusted_files job list s named b → a ≡ b
  one_comparison s named a b p q =
      let old = one_file (files named.old_path) p.old_file q.old_file p.old_told q.old_told in
      let new = one_file (files named.new_path) p.new_file q.new_file p.new_told q.new_told in
      let told = one_file (trusted_files job.trusted_old) p.trusted_old_file q.trusted_old_file p.trusted_old_told q.trusted_old_told in
      let tnew = one_file (trusted_files job.trusted_new) p.trusted_new_file q.trusted_new_file p.trusted_new_told q.trusted_new_told in
      let wish = asked_by s.options named in
      let trusted_wish = asked_by s.options (trusted_of job) in
      let runs = subst (λ (o : Option (List ℕ)). RunsLines limits list wish trusted_wish o p.new_file p.trusted_old_file p.trusted_new_file
      q.run) old
      (subst (λ (o : Option (List ℕ)). RunsLines limits list wish trusted_wish q.old_file o p.trusted_old_file p.trusted_new_file q.run)
      new
      (subst (λ (o : Option (List ℕ)). RunsLines limits list wish trusted_wish q.old_file q.new_file o p.trusted_new_file q.run) told
      (subst (λ (o : Option (List ℕ)). RunsLines limits list wish trusted_wish q.old_file q.new_file q.trusted_old_file o q.run)
      tnew q.runs)))
      in
      let run = four_sides_have_one_answer limits list wish trusted_wish p.old_file p.new_file p.trusted_old_file p.trusted_new_file
      p.run q.run p.runs runs in
      p.then_is
      ∙ (λ i. line_answer (lines_at_fault list wish trusted_wish (sym old i) (sym new i) (sym told i) (sym tnew i)) named
      (trusted_of job) (run i))
      ∙ sym q.then_is

  one_of_settings : (settings : Result Configured NoSettings) (named other : Named) (a b : LineAnswer) → other.config ≡ named.config
      → IsSettingsLineAnswer files trusted_files job list settings named a
      → IsSettingsLineAnswer files trusted_files job list settings other b → a ≡ b
  one_of_settings (Err why) named other a b same p q = p ∙ sym q
  one_of_settings (Ok s) named other a b same p q =
      one_comparison s named a b p
      (subst (λ (n : Named). ComparesForLines files trusted_files job list s n b) (same_named s named other a b same p q) q)

  one_listed : (named other : Named) (a b : LineAnswer) → other.config ≡ named.config
      → IsListedLineAnswer files trusted_files job list named a → IsListedLineAnswer files trusted_files job list other b → a ≡ b
  one_listed named other a b same p q =
      one_of_settings p.settings named other a b same p.then_is
      (subst (λ (r : Result Configured NoSettings). IsSettingsLineAnswer files trusted_files job list r other b)
      (one_settings (comparison_of job) q.settings p.settings files q.are p.are) q.then_is)

module _ (files trusted_files : Files) (job : LineJobText) where
  one_given : (reading : Result (List RuleText) ListFault) (named other : Named) (a b : LineAnswer) → other.config ≡ named.config
      → IsGivenLineAnswer files trusted_files job reading named a → IsGivenLineAnswer files trusted_files job reading other b → a ≡ b
  one_given (Err fault) named other a b same p q = p ∙ sym q
  one_given (Ok rules) named other a b same p q =
      one_listed files trusted_files job (list_of job.without rules) named other a b same p q

  -- A job has only one answer.
  pub no_line_job_has_two_answers : (named other : Named) (a b : LineAnswer) → IsLineAnswer files trusted_files job named a
      → IsLineAnswer files trusted_files job other b → a ≡ b
  no_line_job_has_two_answers named other a b p q =
      one_given p.reading named other a b (q.config_is ∙ sym p.config_is) p.then_is
      (subst (λ (r : Result (List RuleText) ListFault). IsGivenLineAnswer files trusted_files job r other b)
      (one_reading job.without q.reading q.list_reads ∙ sym (one_reading job.without p.reading p.list_reads)) q.then_is)
