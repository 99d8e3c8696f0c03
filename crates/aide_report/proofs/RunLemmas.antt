-- From the pass over two texts to the report over their maps.
use Rattle.std.specs.Prelude.{◌≡◌, ℕ, Option, Result, Ok, List, [], length, count_by}
use Rattle.std.proofs.Common.{refl, sym, ap, subst, ◌∙◌, arith}
use Rattle.std.specs.FinMap.{len}
use Rattle.std.specs.Io.KnownBytes.{Appends}
use Rattle.aide_conf.specs.declared.options.Options.{Options}
use Rattle.aide_conf.specs.declared.task.Task.{Task}
use Rattle.aide_merge.specs.Asked.{asked}
use Rattle.sha2.specs.Sha256.{sha256}
use Rattle.aide_db.specs.Database.{IsSound}
use Rattle.aide_db.specs.Map.{database_of}
use Rattle.aide_fields.specs.Path.{path_cmp}
use Rattle.aide_db.specs.declared.fault.DbFault.{DbFault}
use Rattle.aide_db.specs.declared.limits.Limits.{Limits}
use Rattle.aide_fields.proofs.PathLaws.{path_cmp_total, path_cmp-IsAntisymmetric}
use Rattle.aide_merge.specs.Changed.{differ_by}
use Rattle.aide_merge.specs.Changes.{is_added, is_removed, is_changed, is_of_new}
use Rattle.aide_merge.specs.Compare.{changes, added, removed, changed}
use Rattle.aide_report.specs.code.Counts.{Completes}
use Rattle.aide_merge.specs.Said.{is_shown_entry}
use Rattle.aide_report.specs.code.Finding.{IsFinding, old_origin, new_origin}
use Rattle.aide_merge.specs.code.Merging.{pass_of}
use Rattle.aide_merge.specs.declared.outcome.Outcome.{Outcome}
use Rattle.aide_report_specs.specs.Report.{text_of, section_count}
use Rattle.aide_merge.specs.Outcomes.{counts_of, outcome_by}
use Rattle.aide_report.specs.declared.finding.Finding.{Finding}
use Rattle.aide_merge.specs.RightAnswer.{Report, RunsBy}
use Rattle.aide_report_specs.specs.Runs.{report_over, sections_over, Runs, EndsWell, EndsEarly}
use Rattle.aide_text.specs.Sent.{SendsPart}
use Rattle.aide_text.specs.declared.counts.Counts.{Counts}
use Rattle.aide_merge.proofs.FirstFaults.{RunsBy-unique}
use Rattle.aide_merge.proofs.Laws.{added_count, removed_count, changed_count, total_count}
use Rattle.aide_merge.proofs.TextLemmas.{pass_is_changes}

-- the counts of a whole pass are those of the maps
pub counts_are : (limits : Limits) (options : Options) (counts : Counts) (old new : List ℕ) → IsSound limits old
    → IsSound limits new
    → Completes options counts [] (pass_of old new) → counts ≡ counts_of options (database_of old) (database_of new)
counts_are limits options counts old new sound_old sound_new done =
    let pass = pass_is_changes limits old new sound_old sound_new in
    let a : length (added (database_of old) (database_of new)) ≡ counts.added =
    sym (added_count path_cmp path_cmp_total path_cmp-IsAntisymmetric (database_of old) (database_of new)) ∙ ap (count_by is_added) pass
    ∙ omega (arith, done.added) in
    let r : length (removed (database_of old) (database_of new)) ≡ counts.removed =
    sym (removed_count path_cmp path_cmp_total path_cmp-IsAntisymmetric (database_of old) (database_of new)) ∙ ap (count_by is_removed) pass
    ∙ omega (arith, done.removed) in
    let c : length (changed (differ_by options.ignore) (database_of old) (database_of new)) ≡ counts.changed =
    sym (changed_count path_cmp path_cmp_total (differ_by options.ignore) path_cmp-IsAntisymmetric (database_of old) (database_of new))
    ∙ ap (count_by (is_changed (differ_by options.ignore))) pass ∙ omega (arith, done.changed) in
    let t : len (database_of new) ≡ counts.total =
    sym (total_count path_cmp path_cmp_total path_cmp-IsAntisymmetric (database_of old) (database_of new)) ∙ ap (count_by is_of_new) pass
    ∙ omega (arith, done.total) in
    let s : count_by (is_shown_entry options) (changes (database_of old) (database_of new)) ≡ counts.shown =
    ap (count_by (is_shown_entry options)) pass ∙ omega (arith, done.shown) in
    λ i. record { added = sym a i; removed = sym r i; changed = sym c i; total = sym t i; shown = sym s i }

-- the digests of the finding are those of the texts
pub record HasDigests (finding : Finding) (old new : List ℕ) : Type 0 where
  pub of_old : finding.digests.of_old ≡ sha256 old
  pub of_new : finding.digests.of_new ≡ sha256 new

-- the text that the finding calls for is the report
pub text_is : (limits : Limits) (task : Task) (finding : Finding) (old new : List ℕ) → IsSound limits old
    → IsSound limits new
    → IsFinding task.options finding old new → HasDigests finding old new
    → text_of task.options (old_origin task finding) (new_origin task finding) finding.counts (pass_of old new)
    ≡ (report_over (asked task) old new).text
unfolding report_over
text_is limits task finding old new sound_old sound_new is digests =
    let pass = sym (pass_is_changes limits old new sound_old sound_new) in
    λ i. text_of task.options (record { path = task.old_path.now; digest = digests.of_old i })
    (record { path = task.new_path.now; digest = digests.of_new i }) (is.counts i) (pass i)

-- its outcome is the one that is told
pub outcome_is : (task : Task) (finding : Finding) (old new : List ℕ) → IsFinding task.options finding old new
    → (report_over (asked task) old new).outcome ≡ outcome_by finding.counts finding.skipped_old finding.skipped_new
unfolding report_over
outcome_is task finding old new is = λ i. outcome_by (sym is.counts i) (sym is.skipped_old i) (sym is.skipped_new i)

-- its sections of entries are as many
pub sections_are : (task : Task) (finding : Finding) (old new : List ℕ) → IsFinding task.options finding old new
    → section_count task.options finding.counts ≡ sections_over (asked task) old new
unfolding sections_over
sections_are task finding old new is = ap (section_count task.options) is.counts

right_report : (limits : Limits) (over : List ℕ → List ℕ → Report) (old new : List ℕ) → IsSound limits old → IsSound limits new
    → (r : Result Report DbFault) → RunsBy limits over old new r → Ok (over old new) ≡ r
right_report limits over old new sound_old sound_new r runs =
    RunsBy-unique limits over old new (Ok (over old new)) r (sound_old, sound_new, refl) runs

-- what is written of two sound texts, and the outcome, are those of the right answer
pub well_by : (limits : Limits) (over : List ℕ → List ℕ → Report) (old new : List ℕ) (before after : Option (List ℕ)) (text : List ℕ)
    (outcome : Outcome)
    → IsSound limits old → IsSound limits new → (over old new).outcome ≡ outcome → text ≡ (over old new).text
    → Appends before after text → (r : Result Report DbFault) → RunsBy limits over old new r
    → EndsWell r outcome before after
well_by limits over old new before after text outcome sound_old sound_new told is sent r runs =
    subst (λ answer. EndsWell answer outcome before after) (right_report limits over old new sound_old sound_new r runs)
    (told, subst (λ bytes. Appends before after bytes) is sent)

pub early_by : (limits : Limits) (over : List ℕ → List ℕ → Report) (old new : List ℕ) (before after : Option (List ℕ)) (text : List ℕ)
    → IsSound limits old → IsSound limits new → text ≡ (over old new).text
    → SendsPart text before after → (r : Result Report DbFault) → RunsBy limits over old new r → EndsEarly r before after
early_by limits over old new before after text sound_old sound_new is sent r runs =
    subst (λ answer. EndsEarly answer before after) (right_report limits over old new sound_old sound_new r runs)
    (subst (λ bytes. SendsPart bytes before after) is sent)

pub ends_well : (limits : Limits) (task : Task) (finding : Finding) (old new : List ℕ) (before after : Option (List ℕ))
    → IsSound limits old → IsSound limits new
    → IsFinding task.options finding old new → HasDigests finding old new
    → Appends before after (text_of task.options (old_origin task finding) (new_origin task finding) finding.counts (pass_of old new))
    → (r : Result Report DbFault) → Runs limits (asked task) old new r
    → EndsWell r (outcome_by finding.counts finding.skipped_old finding.skipped_new) before after
ends_well limits task finding old new before after sound_old sound_new is digests =
    well_by limits (report_over (asked task)) old new before after _ _ sound_old sound_new (outcome_is task finding old new is)
    (text_is limits task finding old new sound_old sound_new is digests)

pub ends_early : (limits : Limits) (task : Task) (finding : Finding) (old new : List ℕ) (before after : Option (List ℕ))
    → IsSound limits old → IsSound limits new
    → IsFinding task.options finding old new → HasDigests finding old new
    → SendsPart (text_of task.options (old_origin task finding) (new_origin task finding) finding.counts (pass_of old new)) before after
    → (r : Result Report DbFault) → Runs limits (asked task) old new r → EndsEarly r before after
ends_early limits task finding old new before after sound_old sound_new is digests =
    early_by limits (report_over (asked task)) old new before after _ sound_old sound_new
    (text_is limits task finding old new sound_old sound_new is digests)
