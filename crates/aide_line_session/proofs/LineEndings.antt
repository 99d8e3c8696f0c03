-- A session of lines ends with its answer, or is kept from it.
use Rattle.std.proofs.Common.{◌≡◌, ◌∙◌, ℕ, ◌≤◌, List, Option, sym, ap, Ok, Err, inl, inr, ◌⊎◌}
use Rattle.std.proofs.Common.{arith, rules}
use Rattle.std.specs.Prelude.{Result, max}
use Rattle.std.specs.Io.KnownBytes.{Keeps}
use Rattle.std.proofs.Math.Path.{subst}
use Rattle.aide_conf.specs.Settings.{Configured}
use Rattle.aide_conf.specs.declared.options.Options.{Options}
use Rattle.aide_patterns.proofs.Laws.{one_reading}
use Rattle.aide_patterns.specs.Line.{RuleText}
use Rattle.aide_patterns.specs.List.{HasFirstFault, HasRules, IsReading}
use Rattle.aide_patterns.specs.declared.fault.ListFault.{ListFault}
use Rattle.aide_text.specs.Failures.{Rose}
use Rattle.aide_merge.specs.declared.outcome.Outcome.{Outcome}
use Rattle.aide_site.specs.Answer.{Named}
use Rattle.aide_line_session.specs.LineAnswer.{ComparesForLines, IsGivenLineAnswer, IsLineAnswer, IsListedLineAnswer}
use Rattle.aide_line_session.specs.LineAnswer.{IsSettingsLineAnswer}
use Rattle.aide_line_session.specs.LineAnswer.{LineAnswer}
use Rattle.aide_line_session.specs.LineAnswer.{lines_written, refused_lines, trusted_of}
use Rattle.aide_line_session.specs.LineEnds.{LineView, ClosesLines, ComparesPairs, EndsLinesBy}
use Rattle.aide_line_session.specs.LineEnds.{EndsWithin, StopCause, StopsWith, WholeLines}
use Rattle.aide_line_session.specs.LineEnds.{compared_line, stop_line, stop_status}
use Rattle.aide_line_session.specs.LineEnds.{EarlyStop, list_refused, no_settings}
use Rattle.aide_site.specs.Ends.{Puts, Sinks, Starved, of_sites, of_whose}
use Rattle.aide_site.specs.Files.{Files}
use Rattle.aide_site.specs.JobSettings.{comparison_of, no_settings_line, no_settings_status}
use Rattle.aide_site.specs.declared.job_config.NoSettings.{NoSettings}
use Rattle.aide_line_session.specs.GivenList.{IsList, IsListOf, list_line, list_of}
use Rattle.aide_site.specs.Held.{HoldsWithin, most_held}
use Rattle.aide_site.proofs.AnswerSteps.{read_is}
use Rattle.aide_site.proofs.Endings.{ends_unfailed, of_both, same_some, starved_for}
use Rattle.aide_site.proofs.JobSettings.{ends_without}
use Rattle.aide_site.proofs.PutLemmas.{put_as, put_passed}
use Rattle.aide_line_run.specs.Listed.{ListRead}
use Rattle.aide_line_run.specs.declared.pair_fault.PairFault.{PairFault}
use Rattle.aide_words.specs.LineJob.{LineJobText}
use Rattle.aide_line_session.proofs.LineComparisons.{EndsFor, compared_ends, none_starts, sites_of}

-- ---- from the answer to a job to that of its configuration

-- the answer of settings that are known
of_settings : (files trusted_files : Files) (job : LineJobText) (list : ListRead) (named : Named) (a : LineAnswer)
    (settings : Result Configured NoSettings) (is : IsListedLineAnswer files trusted_files job list named a) → is.settings ≡ settings
    → IsSettingsLineAnswer files trusted_files job list settings named a
of_settings files trusted_files job list named a settings is same =
    subst (λ (r : Result Configured NoSettings). IsSettingsLineAnswer files trusted_files job list r named a) same is.then_is

-- ---- from the answer to a job to that of its list

-- what was read of a list is determined by its text and its rules
pub list_is : (text : List ℕ) (list : ListRead) → IsListOf text list → list_of text list.rules ≡ list
list_is text list is = λ i. record { rules = list.rules; digest = sym is.digest i }

rules_are_no_fault : (rules : List RuleText) (fault : ListFault) → Ok rules ≡ Err fault → ⊥
rules_are_no_fault rules fault e = cc

-- no text has rules and a fault
pub no_rules_and_fault : (text : List ℕ) (rules : List RuleText) (fault : ListFault) → HasRules text rules → HasFirstFault text fault → ⊥
no_rules_and_fault text rules fault has refused =
    rules_are_no_fault rules fault (one_reading text (Ok rules) has ∙ sym (one_reading text (Err fault) refused))

module _ (files trusted_files : Files) (job : LineJobText) (named : Named) (a : LineAnswer)
    (is : IsLineAnswer files trusted_files job named a) where
  -- the answer of a reading of the list
  of_reading : (reading : Result (List RuleText) ListFault) → IsReading job.without reading
      → IsGivenLineAnswer files trusted_files job reading named a
  of_reading reading reads =
      subst (λ (r : Result (List RuleText) ListFault). IsGivenLineAnswer files trusted_files job r named a)
      (one_reading job.without is.reading is.list_reads ∙ sym (one_reading job.without reading reads)) is.then_is

  of_rules : (has : IsList job.without) → IsListedLineAnswer files trusted_files job (list_of job.without has.0) named a
  of_rules has = of_reading (Ok has.0) has.1

  -- the answer of what was read of the list
  of_list : (list : ListRead) → IsListOf job.without list → IsListedLineAnswer files trusted_files job list named a
  of_list list listed =
      subst (λ (l : ListRead). IsListedLineAnswer files trusted_files job l named a) (list_is job.without list listed)
      (of_reading (Ok list.rules) listed.rules)

-- ---- the end of a session

whole_stop : (a : LineAnswer) (line : List ℕ) (code status : ℕ) (v : LineView) → a ≡ refused_lines line code
    → StopsWith line code status v
    → WholeLines a status v.sinks
whole_stop a line code status v is stops = search rules

module _ (job : LineJobText) (status before : ℕ) (v : LineView) (named : Named) (a : LineAnswer)
    (is : IsLineAnswer v.files v.trusted_files job named a) where
  stop_ends : (stop : EarlyStop) → StopCause v.files v.is_reliable job (Rose before v.site_after) stop
      → StopsWith (stop_line job stop) (stop_status stop) status v
      → EndsFor a named (trusted_of job) status before v
  stop_ends (list_refused fault) cause stops =
      inl (whole_stop a (list_line fault) 17 status v (of_reading v.files v.trusted_files job named a is (Err fault) cause) stops)
  stop_ends (no_settings why) cause stops = elim cause [
    | inl memory ↦ starved_for lines_written a (of_whose named (trusted_of job)) status v.sinks (sites_of before v)
        (Rose v.out_before v.out_after) job.config why memory stops.status_is stops.output stops.put
    | inr because ↦
        let listed = of_rules v.files v.trusted_files job named a is because.0 in
        ends_without lines_written a (of_whose named (trusted_of job)) status v.sinks (sites_of before v) (Rose v.out_before v.out_after)
        v.files v.is_reliable (comparison_of job) (Rose before v.site_after) why listed.settings
        (none_starts a.output v.sinks.out_old v.sinks.out_new stops.output) because.1 listed.are stops.status_is stops.output
        (put_as _ _ (ap (λ path. no_settings_line path why) (sym is.config_is)) stops.put)
        (λ same. inl (whole_stop a (no_settings_line job.config why) (no_settings_status why) status v
        (of_settings v.files v.trusted_files job (list_of job.without because.0.0) named a (Err why) listed same) stops))
        (λ failed. failed)
  ]

  -- the comparison of the answer
  answer_compares : (closes : ClosesLines job status before v)
      → ComparesForLines v.files v.trusted_files job closes.list closes.settings named a
  answer_compares closes =
      let listed = of_list v.files v.trusted_files job named a is closes.list closes.listed in
      of_settings v.files v.trusted_files job closes.list named a (Ok closes.settings) listed
      (read_is v.files (comparison_of job) (Ok closes.settings) listed.settings closes.read listed.are)

  -- the paths of the comparison are those of the answer
  same_paths : (closes : ClosesLines job status before v) → closes.named ≡ named
  same_paths closes =
      let compares = answer_compares closes in
      let old = same_some closes.settings.old_path closes.named.old_path named.old_path closes.old_is compares.old_is in
      let new = same_some closes.settings.new_path closes.named.new_path named.new_path closes.new_is compares.new_is in
      let config = closes.config_is ∙ sym is.config_is in
      λ i. record { config = config i; old_path = old i; new_path = new i }

  -- a session ends with the answer to its job, or is kept from it
  pub lines_end : EndsLinesBy job status before v → EndsFor a named (trusted_of job) status before v
  lines_end ends = elim ends [
    | inl early ↦ stop_ends early.stop early.cause early.stops
    | inr closes ↦
        let compares = answer_compares closes in
        let same = same_paths closes in
        let result = closes.closes.result in
        subst (λ (x : LineAnswer). EndsFor x named (trusted_of job) status before v) (sym compares.then_is)
        (compared_ends job closes.list status before closes.count v closes.settings named closes.later a compares result
        (subst (λ (n : Named). ComparesPairs closes.list n (trusted_of job) closes.settings.options result (Rose closes.count v.site_after)
        v) same
        closes.closes.compares)
        closes.closes.status_is
        (subst (λ (n : Named). Puts (compared_line n (trusted_of job) result) v.sinks) same closes.closes.put))
  ]

  -- the first desk has held no more than three lines of the named databases
  pub line_bound : EndsLinesBy job status before v → HoldsWithin v.files named v.peak_before v.peak_after
  line_bound ends = elim ends [
    | inl early ↦ λ old new has_old has_new. let still = early.stops.still in omega (arith, still)
    | inr closes ↦ subst (λ (n : Named). HoldsWithin v.files n v.peak_before v.peak_after) (same_paths closes) closes.closes.compares.bound
  ]

-- the peak of neither desk falls, and it rises at most to three lines as long as the limit
abbrev pub PeaksRise : LineView → Type 0
PeaksRise v = (v.peak_before ≤ v.peak_after) × (v.peak_after ≤ max v.peak_before most_held)
    × (v.trusted_peak_before ≤ v.trusted_peak_after)
    × (v.trusted_peak_after ≤ max v.trusted_peak_before most_held)

-- what both desks have held
module _ (job : LineJobText) (status before : ℕ) (v : LineView) where
  pub trusted_line_bound : EndsLinesBy job status before v
      → HoldsWithin v.trusted_files (trusted_of job) v.trusted_peak_before v.trusted_peak_after
  trusted_line_bound ends = search rules

  pub peaks_of_lines : EndsLinesBy job status before v → PeaksRise v
  peaks_of_lines ends = search rules

-- standard error has counted no fewer failures
pub put_rises : (job : LineJobText) (status before : ℕ) (v : LineView) → EndsLinesBy job status before v
    → v.sinks.err_before ≤ v.sinks.err_after
put_rises job status before v ends = search rules

-- ---- without a failure

-- an ending without a failure
pub lines_unfailed : (a : LineAnswer) (named trusted : Named) (status : ℕ) (s : Sinks) (site trusted_site out : Type 0) → (site → ⊥)
    → (trusted_site → ⊥) → (out → ⊥) → EndsWithin a named trusted status s site trusted_site out
    → WholeLines a status s ⊎ Starved status s
lines_unfailed a named trusted status s site trusted_site out none trusted_none out_none =
    ends_unfailed lines_written a (of_whose named trusted) status s (of_sites site trusted_site) out
    (of_both site trusted_site none trusted_none) out_none

-- ---- once the lines are passed on

abbrev pub passed_view : LineView → Option (List ℕ) → ℕ → LineView
passed_view v bytes count = record v { sinks = record v.sinks { err_new = bytes; err_after = count } }

module _ (v : LineView) (bytes : Option (List ℕ)) (count : ℕ) (kept : Keeps v.sinks.err_new bytes) (more : v.sinks.err_after ≤ count)
  where
    passed : (line : List ℕ) → Puts line v.sinks → Puts line (passed_view v bytes count).sinks
    passed line put = put_passed line _ _ _ _ _ _ kept more put

    passed_stop : (line : List ℕ) (code status : ℕ) → StopsWith line code status v → StopsWith line code status (passed_view v bytes count)
    passed_stop line code status stops = search (rules, passed)

    passed_pairs : (list : ListRead) (named trusted : Named) (options : Options) (result : Result Outcome PairFault) (site : Type 0)
        → ComparesPairs list named trusted options result site v
        → ComparesPairs list named trusted options result site (passed_view v bytes count)
    passed_pairs list named trusted options result site c = search rules

    pub lines_passed : (job : LineJobText) (status before : ℕ) → EndsLinesBy job status before v
        → EndsLinesBy job status before (passed_view v bytes count)
    lines_passed job status before ends = elim ends [
      | inl early ↦ inl (record {
        stop = early.stop;
        cause = early.cause;
        stops = passed_stop (stop_line job early.stop) (stop_status early.stop) status early.stops;
      })
      | inr closes ↦ inr (record {
        list = closes.list;
        listed = closes.listed;
        settings = closes.settings;
        read = closes.read;
        named = closes.named;
        config_is = closes.config_is;
        old_is = closes.old_is;
        new_is = closes.new_is;
        count = closes.count;
        later = closes.later;
        closes = record {
          result = closes.closes.result;
          status_is = closes.closes.status_is;
          put = passed (compared_line closes.named (trusted_of job) closes.closes.result) closes.closes.put;
          compares = passed_pairs closes.list closes.named (trusted_of job) closes.settings.options closes.closes.result
              (Rose closes.count v.site_after) closes.closes.compares;
        };
      })
    ]
