-- The lines of two databases with a trusted pair: they are lines of JSON, a reader finds in them the paths and digests of
-- all four, and without their last line they are never complete.
use Rattle.std.proofs.Common.{◌≡◌, ◌∙◌, ◌∷◌, ◌++◌, Err, List, Ok, Some, [], ap, append_assoc, false, refl, rules, true, ℕ}
use Rattle.std.proofs.Common.{if◌then◌else◌, Option}
use Rattle.std.specs.Prelude.{codes}
use Rattle.std.specs.List.{AllByRecursion}
use Rattle.sha2.specs.Sha256.{sha256}
use Rattle.aide_conf.specs.declared.options.Options.{Options}
use Rattle.aide_db.specs.Database.{IsSound}
use Rattle.aide_db.specs.Map.{database_of}
use Rattle.aide_db.specs.declared.limits.Limits.{Limits}
use Rattle.aide_db.specs.declared.side.Side.TheVariants.{Old, New}
use Rattle.aide_json.specs.Value.{text_member}
use Rattle.aide_line_text.specs.Frame.{ReadFacts, closing_members, opening_members}
use Rattle.aide_line_text.specs.declared.counts.LineCounts.{LineCounts}
use Rattle.aide_merge.specs.Asked.{Asked}
use Rattle.aide_line_run.specs.ChangeLines.{change_line, change_lines, listed_changes, listed_line}
use Rattle.aide_merge.specs.Compare.{changes}
use Rattle.aide_line_run.specs.LineCounts.{line_counts, status_by}
use Rattle.aide_line_run.specs.Lines.{read_of}
use Rattle.aide_merge.specs.Outcomes.{outcome_over}
use Rattle.aide_merge.specs.Said.{all_listed, is_in}
use Rattle.aide_merge.specs.Seen.{SinkSeen}
use Rattle.aide_merge.specs.declared.outcome.Outcome.{Outcome}
use Rattle.aide_merge.specs.declared.run_fault.RunFault.TheVariants.{Open, Database, Changed, Write}
use Rattle.aide_line_run.specs.Lines.{BeginsLines, lines_framed, by_texts, last_line, facts_of_texts, lines_of_texts}
use Rattle.aide_line_run.specs.Lines.{first_line}
use Rattle.aide_line_run.specs.RunEnds.{CutsLines, changes_between}
use Rattle.aide_line_run.specs.Listed.{ListRead, leaves_between}
use Rattle.aide_line_run.specs.PairSeen.{Gives, PairSeen}
use Rattle.aide_line_run.specs.LinesRun.{IsLinesRun}
use Rattle.aide_line_run.specs.Sought.{Accounted, accounted_lines, changes_of}
use Rattle.aide_line_run.specs.declared.pair_fault.PairFault.{PairFault}
use Rattle.aide_line_run.specs.declared.pair_fault.PairFault.TheVariants.{Compared, Trusted}
use Rattle.aide_line_laws.specs.ByteValues.{AreBytes}
use Rattle.aide_line_laws.specs.Complete.{AreComplete, EndsWithDigests, LeavesUnfinished, digest_under}
use Rattle.aide_line_laws.specs.Field.{Field, fields_of}
use Rattle.aide_line_laws.specs.JsonLine.{AreJsonLines}
use Rattle.aide_line_laws.specs.Reading.{text_under}
use Rattle.aide_line_laws.specs.TextFields.{change_fields, fields_begun, fields_of_texts}
use Rattle.aide_line_laws.proofs.CompleteLaws.{IsNoEnd, complete_by, never_begins, no_end, only_all, sent_begins}
use Rattle.aide_line_laws.proofs.EndLaws.{closing_line_trusted_is_json, opening_line_trusted_is_json}
use Rattle.aide_line_laws.proofs.Laws.{change_line_is_json}
use Rattle.aide_line_laws.proofs.ReadingLaws.{chosen, no_change_is_the_end, past_text, read_in_base_16, text_is_read}
use Rattle.aide_line_laws.proofs.TextLaws.{IsChangeOfBytes, all_lines_are_json, begun_bytes, changes_bytes, lines_both, one_line}
use Rattle.aide_line_laws.proofs.TextLaws.{sha256_bytes}

-- the paths of a pair are of bytes
abbrev pub ArePathsOfBytes : Asked → Type 0
ArePathsOfBytes asked = AreBytes asked.old_path × AreBytes asked.new_path

-- ---- lines of JSON

-- The lines over two sound texts of bytes with a trusted pair are lines of JSON, whatever is asked and whatever the
-- trusted texts and the rules of the list are: each has the members that belong to the changes of the two databases, in
-- their order, and says what accounts for its change by the trusted maps and by the list.
pub lines_are_json : (limits : Limits) (list : ListRead) (wish trusted : Asked) (old new trusted_old trusted_new : List ℕ)
    → IsSound limits old → IsSound limits new → AreBytes old → AreBytes new → ArePathsOfBytes wish → ArePathsOfBytes trusted
    → AreBytes list.digest
    → AreJsonLines (lines_of_texts list wish trusted old new trusted_old trusted_new).text
    (fields_of_texts list wish trusted old new trusted_old trusted_new)
unfolding lines_of_texts lines_framed
lines_are_json limits list wish trusted old new trusted_old trusted_new old_sound new_sound old_bytes new_bytes paths
    others digest =
    search (rules, all_lines_are_json, changes_bytes, opening_line_trusted_is_json, closing_line_trusted_is_json, sha256_bytes)

-- the members of the line of a change, by what accounts for it, if it has a line
abbrev accounted_fields : Options → Accounted → List (List Field)
accounted_fields options each =
    if is_in options all_listed each.0 then change_fields options (λ any. each.1) each.0 ∷ [] else []

-- those of all lines
abbrev all_accounted_fields : Options → List Accounted → List (List Field)
all_accounted_fields options [] = []
all_accounted_fields options (each ∷ all) = accounted_fields options each ++ all_accounted_fields options all

accounted_is_json : (options : Options) (each : Accounted) → IsChangeOfBytes each.0
    → AreJsonLines (listed_line options (λ any. each.1) each.0) (accounted_fields options each)
unfolding listed_line
accounted_is_json options each h =
    elim (is_in options all_listed each.0) as (λ b. AreJsonLines
    (if b then change_line options (λ any. each.1) each.0 else [])
    (if b then change_fields options (λ any. each.1) each.0 ∷ [] else [])) [
      | true ↦ one_line (change_line options (λ any. each.1) each.0) (change_fields options (λ any. each.1) each.0)
          (change_line_is_json options (λ any. each.1) each.0 h.0 h.1.0 h.1.1)
      | false ↦ refl
    ]

all_accounted_are_json : (options : Options) (all : List Accounted) → AllByRecursion IsChangeOfBytes (changes_of all)
    → AreJsonLines (accounted_lines options all) (all_accounted_fields options all)
all_accounted_are_json options [] h = refl
all_accounted_are_json options (each ∷ all) h =
    lines_both (listed_line options (λ any. each.1) each.0) (accounted_lines options all) (accounted_fields options each)
    (all_accounted_fields options all) (accounted_is_json options each h.0) (all_accounted_are_json options all h.1)

-- ---- what is read back

-- In the first line what is under each name is the path of that database.
pub paths_are_read_back : (old_path new_path trusted_old trusted_new : List ℕ) → AreBytes old_path → AreBytes new_path
    → AreBytes trusted_old → AreBytes trusted_new
    → (text_under (codes "old") (fields_of (opening_members old_path new_path trusted_old trusted_new)) ≡ Some old_path)
    × (text_under (codes "new") (fields_of (opening_members old_path new_path trusted_old trusted_new)) ≡ Some new_path)
    × (text_under (codes "trusted_old") (fields_of (opening_members old_path new_path trusted_old trusted_new)) ≡ Some trusted_old)
    × (text_under (codes "trusted_new") (fields_of (opening_members old_path new_path trusted_old trusted_new)) ≡ Some trusted_new)
paths_are_read_back old_path new_path trusted_old trusted_new h k l m =
    let last = text_member (codes "trusted_new") trusted_new ∷ [] in
    let third = text_member (codes "trusted_old") trusted_old ∷ last in
    let second = text_member (codes "new") new_path ∷ third in (
      text_is_read (codes "old") old_path second h refl refl refl
          (past_text (codes "old") (codes "new") new_path third refl refl
          ∙ past_text (codes "old") (codes "trusted_old") trusted_old last refl refl
          ∙ past_text (codes "old") (codes "trusted_new") trusted_new [] refl refl),
      (λ i. chosen (past_text (codes "new") (codes "old") old_path second refl refl i)
          (past_text (codes "new_hex") (codes "old") old_path second refl refl i))
          ∙ text_is_read (codes "new") new_path third k refl refl refl
          (past_text (codes "new") (codes "trusted_old") trusted_old last refl refl
          ∙ past_text (codes "new") (codes "trusted_new") trusted_new [] refl refl),
      (λ i. chosen ((past_text (codes "trusted_old") (codes "old") old_path second refl refl
          ∙ past_text (codes "trusted_old") (codes "new") new_path third refl refl) i)
          ((past_text (codes "trusted_old_hex") (codes "old") old_path second refl refl
          ∙ past_text (codes "trusted_old_hex") (codes "new") new_path third refl refl) i))
          ∙ text_is_read (codes "trusted_old") trusted_old last l refl refl refl
          (past_text (codes "trusted_old") (codes "trusted_new") trusted_new [] refl refl),
      (λ i. chosen ((past_text (codes "trusted_new") (codes "old") old_path second refl refl
          ∙ past_text (codes "trusted_new") (codes "new") new_path third refl refl
          ∙ past_text (codes "trusted_new") (codes "trusted_old") trusted_old last refl refl) i)
          ((past_text (codes "trusted_new_hex") (codes "old") old_path second refl refl
          ∙ past_text (codes "trusted_new_hex") (codes "new") new_path third refl refl
          ∙ past_text (codes "trusted_new_hex") (codes "trusted_old") trusted_old last refl refl) i))
          ∙ text_is_read (codes "trusted_new") trusted_new [] m refl refl refl refl,
    )

-- In the last line a reader finds the digests of all four, and of the list.
pub digests_are_read_back : (old new trusted_old trusted_new : ReadFacts) (list : List ℕ) (counts : LineCounts)
    (status : ℕ)
    → AreBytes old.digest → AreBytes new.digest → AreBytes trusted_old.digest → AreBytes trusted_new.digest → AreBytes list
    → (digest_under (codes "old") (fields_of (closing_members old new trusted_old trusted_new list counts status)) ≡ Some old.digest)
    × (digest_under (codes "new") (fields_of (closing_members old new trusted_old trusted_new list counts status)) ≡ Some new.digest)
    × (digest_under (codes "trusted_old") (fields_of (closing_members old new trusted_old trusted_new list counts status))
    ≡ Some trusted_old.digest)
    × (digest_under (codes "trusted_new") (fields_of (closing_members old new trusted_old trusted_new list counts status))
    ≡ Some trusted_new.digest)
    × (digest_under (codes "list") (fields_of (closing_members old new trusted_old trusted_new list counts status)) ≡ Some list)
digests_are_read_back old new trusted_old trusted_new list counts status h k l m n =
    search (rules, read_in_base_16)

-- ---- which lines are complete

-- The lines over four texts are complete.
pub lines_are_complete : (list : ListRead) (wish trusted : Asked) (old new trusted_old trusted_new : List ℕ)
    → AreComplete (fields_of_texts list wish trusted old new trusted_old trusted_new)
lines_are_complete list wish trusted old new trusted_old trusted_new = search (rules, complete_by)

accounted_has_no_end : (options : Options) (all : List Accounted) → AllByRecursion IsNoEnd (all_accounted_fields options all)
accounted_has_no_end options [] = tt
accounted_has_no_end options (each ∷ all) =
    elim (is_in options all_listed each.0) as (λ b. AllByRecursion IsNoEnd
    ((if b then change_fields options (λ any. each.1) each.0 ∷ [] else []) ++ all_accounted_fields options all)) [
      | true ↦ (no_change_is_the_end options (λ any. each.1) each.0, accounted_has_no_end options all)
      | false ↦ accounted_has_no_end options all
    ]

opening_is_no_end : (old_path new_path trusted_old trusted_new : List ℕ)
    → IsNoEnd (fields_of (opening_members old_path new_path trusted_old trusted_new))
opening_is_no_end old_path new_path trusted_old trusted_new = search (rules, past_text)

-- What goes out before the last line, whatever the four texts are, does not begin with complete lines.
pub begun_lines_are_never_complete : (wish trusted : Asked) (old new : List ℕ) (accounted : List Accounted)
    → changes_of accounted ≡ changes_between old new → AreBytes old → AreBytes new → ArePathsOfBytes wish
    → ArePathsOfBytes trusted
    → (whole rest : List ℕ) (all : List (List Field)) → AreJsonLines whole all → AreComplete all
    → first_line wish trusted ++ accounted_lines wish.options accounted ≡ whole ++ rest → ⊥
begun_lines_are_never_complete wish trusted old new accounted same old_bytes new_bytes paths others =
    let first = fields_of (opening_members wish.old_path wish.new_path trusted.old_path trusted.new_path) in
    never_begins (first_line wish trusted ++ accounted_lines wish.options accounted)
    (first ∷ all_accounted_fields wish.options accounted)
    (lines_both (first_line wish trusted) (accounted_lines wish.options accounted) (first ∷ [])
    (all_accounted_fields wish.options accounted)
    (one_line (first_line wish trusted) first
    (opening_line_trusted_is_json wish.old_path wish.new_path trusted.old_path trusted.new_path paths.0 paths.1 others.0 others.1))
    (all_accounted_are_json wish.options accounted (rw same (begun_bytes old new old_bytes new_bytes))))
    (opening_is_no_end wish.old_path wish.new_path trusted.old_path trusted.new_path, accounted_has_no_end wish.options accounted)

-- Lines that are cut are not complete: the lines over four sound texts begin with no complete lines but themselves.
pub cut_lines_are_never_complete : (limits : Limits) (list : ListRead) (wish trusted : Asked)
    (old new trusted_old trusted_new : List ℕ)
    → IsSound limits old → IsSound limits new → AreBytes old → AreBytes new → ArePathsOfBytes wish → ArePathsOfBytes trusted
    → AreBytes list.digest
    → (whole rest : List ℕ) (all : List (List Field)) → AreJsonLines whole all → AreComplete all
    → (lines_of_texts list wish trusted old new trusted_old trusted_new).text ≡ whole ++ rest → rest ≡ []
cut_lines_are_never_complete limits list wish trusted old new trusted_old trusted_new old_sound new_sound old_bytes new_bytes
    paths others digest =
    let account = by_texts list old new trusted_old trusted_new in
    let counts = line_counts wish.options account (database_of old) (database_of new) in
    let all = changes (database_of old) (database_of new) in
    only_all (lines_of_texts list wish trusted old new trusted_old trusted_new).text
    (fields_begun wish.options account
    (fields_of (opening_members wish.old_path wish.new_path trusted.old_path trusted.new_path)) all)
    (fields_of (closing_members (read_of old) (read_of new) (read_of trusted_old) (read_of trusted_new) list.digest counts
    (status_by counts)))
    (lines_are_json limits list wish trusted old new trusted_old trusted_new old_sound new_sound old_bytes new_bytes paths
    others digest) (
      opening_is_no_end wish.old_path wish.new_path trusted.old_path trusted.new_path,
      no_end wish.options account (listed_changes wish.options all),
    )

-- ---- runs

begun_at : (limits : Limits) (list : ListRead) (wish trusted : Asked) (old new trusted_old trusted_new : List ℕ)
    (before after : Option (List ℕ)) (fault : PairFault)
    → CutsLines limits list wish trusted old new trusted_old trusted_new before after fault
    → LeavesUnfinished limits old new trusted_old trusted_new fault
    → BeginsLines (leaves_between list old new) wish trusted (changes_between old new)
    (changes_between trusted_old trusted_new) before after
begun_at limits list wish trusted old new trusted_old trusted_new before after (Compared (Write written)) cut left = cut.1 left
begun_at limits list wish trusted old new trusted_old trusted_new before after (Compared (Open side)) cut left = cut
begun_at limits list wish trusted old new trusted_old trusted_new before after (Compared (Database fault)) cut left = cut
begun_at limits list wish trusted old new trusted_old trusted_new before after (Compared (Changed side)) cut left = cut
begun_at limits list wish trusted old new trusted_old trusted_new before after (Trusted fault) cut left = cut

module _ (limits : Limits) (list : ListRead) (p q : PairSeen) (o s : SinkSeen) (old new trusted_old trusted_new : List ℕ)
    (gives : Gives p old new) (trusted_gives : Gives q trusted_old trusted_new) where
  -- After such a fault a run has not sent complete lines.
  pub no_fault_completes_lines : (fault : PairFault) → IsLinesRun limits list p q o s (Err fault)
      → LeavesUnfinished limits old new trusted_old trusted_new fault
      → AreBytes old → AreBytes new → ArePathsOfBytes p.asked → ArePathsOfBytes q.asked
      → (before whole rest : List ℕ) (all : List (List Field)) → o.delivered ≡ Some before
      → s.delivered ≡ Some (before ++ (whole ++ rest)) → AreJsonLines whole all → AreComplete all → ⊥
  no_fault_completes_lines fault run left old_bytes new_bytes paths others before whole rest all was is h complete =
      let begun =
      begun_at limits list p.asked q.asked old new trusted_old trusted_new o.delivered s.delivered fault
      (run.cut old new trusted_old trusted_new gives trusted_gives) left
      in
      let begins =
      sent_begins (first_line p.asked q.asked ++ accounted_lines p.asked.options begun.accounted) before (whole ++ rest)
      o.delivered s.delivered begun.part was is
      in
      begun_lines_are_never_complete p.asked q.asked old new begun.accounted begun.all old_bytes new_bytes paths others
      whole (rest ++ begins.0) all h complete (begins.1 ∙ append_assoc whole rest begins.0)

  -- After `Ok` it has sent a last line in which a reader finds the SHA-256 of all four texts, and that of the list, if
  -- its digest was that of its text.
  pub digests_are_of_all_texts : (outcome : Outcome) → IsLinesRun limits list p q o s (Ok outcome)
      → (list_text : List ℕ) → list.digest ≡ sha256 list_text
      → EndsWithDigests ((codes "old", old) ∷ (codes "new", new) ∷ (codes "trusted_old", trusted_old)
      ∷ (codes "trusted_new", trusted_new) ∷ (codes "list", list_text) ∷ []) o.delivered s.delivered
  unfolding lines_of_texts lines_framed
  digests_are_of_all_texts outcome run list_text of_list =
      let digest : AreBytes list.digest = rw of_list (sha256_bytes list_text) in
      let account = by_texts list old new trusted_old trusted_new in
      let counts = line_counts p.asked.options account (database_of old) (database_of new) in
      let all = changes (database_of old) (database_of new) in
      let lines = lines_of_texts list p.asked q.asked old new trusted_old trusted_new in
      let ends =
      run.over (Some old) (Some new) (Some trusted_old) (Some trusted_new) gives trusted_gives (Ok lines) (record {
        compared = Ok (outcome_over p.asked.options old new);
        trusted = Ok (outcome_over q.asked.options trusted_old trusted_new);
        compared_runs = (
          Ok (outcome_over p.asked.options old new),
          (run.sound Old old gives.0, run.sound New new gives.1, refl),
          refl,
        );
        trusted_runs = (
          Ok (outcome_over q.asked.options trusted_old trusted_new),
          (run.trusted_sound Old trusted_old trusted_gives.0, run.trusted_sound New trusted_new trusted_gives.1, refl),
          refl,
        );
        answer = refl;
      })
      in
      let read =
      digests_are_read_back (read_of old) (read_of new) (read_of trusted_old) (read_of trusted_new) list.digest counts
      (status_by counts) (sha256_bytes old) (sha256_bytes new) (sha256_bytes trusted_old) (sha256_bytes trusted_new) digest
      in
      record {
        begun = first_line p.asked q.asked ++ change_lines p.asked.options account all;
        last = last_line list (facts_of_texts old new trusted_old trusted_new) counts;
        fields = fields_of (closing_members (read_of old) (read_of new) (read_of trusted_old) (read_of trusted_new) list.digest
            counts (status_by counts));
        bytes = ends.1;
        is_line = closing_line_trusted_is_json (read_of old) (read_of new) (read_of trusted_old) (read_of trusted_new)
            list.digest counts (status_by counts) (sha256_bytes old) (sha256_bytes new) (sha256_bytes trusted_old)
            (sha256_bytes trusted_new) digest;
        is_last = refl;
        digests = (read.0, (read.1, (read.2, (read.3, (read.4 ∙ ap Some of_list, tt)))));
      }
