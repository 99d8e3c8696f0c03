-- What a run has written after `Ok` says all: a path has a line exactly if the databases differ there.
use Rattle.std.proofs.Common.{◌≡◌, ◌++◌, ℕ, List, Some, None, Ok, Err, refl, subst}
use Rattle.std.specs.FinMap.{get}
use Rattle.aide_db.specs.Map.{database_of}
use Rattle.aide_db.specs.declared.limits.Limits.{Limits}
use Rattle.aide_db.specs.declared.side.Side.TheVariants.{Old, New}
use Rattle.aide_merge.specs.Outcomes.{outcome_over}
use Rattle.aide_merge.specs.Seen.{SinkSeen}
use Rattle.aide_merge.specs.declared.outcome.Outcome.{Outcome}
use Rattle.aide_db.specs.EmptyDatabase.{empty_database}
use Rattle.aide_line_run.specs.Lines.{lines_of_texts}
use Rattle.aide_line_run.specs.Listed.{ListRead}
use Rattle.aide_line_run.specs.PairSeen.{Gives, PairSeen}
use Rattle.aide_line_run.specs.LinesRun.{IsLinesRun}
use Rattle.aide_line_run.specs.declared.pair_fault.PairFault.{PairFault}
use Rattle.aide_line_laws.specs.ByteValues.{AreBytes}
use Rattle.aide_line_laws.specs.Complete.{AreComplete, LeavesUnfinished}
use Rattle.aide_line_laws.specs.Field.{Field}
use Rattle.aide_line_laws.specs.JsonLine.{AreJsonLines}
use Rattle.aide_line_laws.specs.OverMaps.{HasSaidAll, left_out_of}
use Rattle.aide_line_laws.specs.TextFields.{fields_of_texts}
use Rattle.aide_line_laws.proofs.JsonLaws.{ArePathsOfBytes, lines_are_complete, lines_are_json}
use Rattle.aide_line_laws.proofs.JsonLaws.{no_fault_completes_lines}
use Rattle.aide_line_laws.proofs.MapLaws.{lines_of_texts_say_all}
use Rattle.aide_db.proofs.NoEntries.{no_entries_are_none}

-- After `Ok` a run over four texts of bytes has written lines that say all of the first two maps, by what the trusted two
-- have at each path and by what the list leaves out.
pub a_trusted_run_says_all : (limits : Limits) (list : ListRead) (p q : PairSeen) (o s : SinkSeen)
    (old new trusted_old trusted_new : List ℕ)
    → Gives p old new → Gives q trusted_old trusted_new → AreBytes old → AreBytes new
    → ArePathsOfBytes p.asked → ArePathsOfBytes q.asked → AreBytes list.digest
    → (outcome : Outcome) → IsLinesRun limits list p q o s (Ok outcome)
    → HasSaidAll p.asked.options.ignore (database_of old) (database_of new)
    (λ path. (get (database_of trusted_old) path, get (database_of trusted_new) path)) (left_out_of list old new)
    o.delivered s.delivered
a_trusted_run_says_all limits list p q o s old new trusted_old trusted_new gives trusted_gives old_bytes new_bytes paths others
    digest outcome run =
    let old_sound = run.sound Old old gives.0 in
    let new_sound = run.sound New new gives.1 in
    let lines = lines_of_texts list p.asked q.asked old new trusted_old trusted_new in
    let ends =
    run.over (Some old) (Some new) (Some trusted_old) (Some trusted_new) gives trusted_gives (Ok lines) (record {
      compared = Ok (outcome_over p.asked.options old new);
      trusted = Ok (outcome_over q.asked.options trusted_old trusted_new);
      compared_runs = (Ok (outcome_over p.asked.options old new), (old_sound, new_sound, refl), refl);
      trusted_runs = (
        Ok (outcome_over q.asked.options trusted_old trusted_new),
        (run.trusted_sound Old trusted_old trusted_gives.0, run.trusted_sound New trusted_new trusted_gives.1, refl),
        refl,
      );
      answer = refl;
    })
    in
    let says =
    lines_of_texts_say_all limits list p.asked q.asked old new trusted_old trusted_new old_sound new_sound old_bytes new_bytes
    in
    record {
      text = lines.text;
      bytes = ends.1;
      all = fields_of_texts list p.asked q.asked old new trusted_old trusted_new;
      are_lines = lines_are_json limits list p.asked q.asked old new trusted_old trusted_new old_sound new_sound
          old_bytes new_bytes paths others digest;
      complete = lines_are_complete list p.asked q.asked old new trusted_old trusted_new;
      lines = says.0;
      framed = says.1;
      say = says.2;
    }

-- After `Ok` a run over two texts of bytes has written lines that say all of their maps, by what the list leaves out, if both
-- trusted texts are that of a database without entries: such a pair has nothing at any path.
pub a_run_says_all : (limits : Limits) (list : ListRead) (p q : PairSeen) (o s : SinkSeen) (old new : List ℕ)
    → Gives p old new → Gives q empty_database empty_database → AreBytes old → AreBytes new
    → ArePathsOfBytes p.asked → ArePathsOfBytes q.asked → AreBytes list.digest
    → (outcome : Outcome) → IsLinesRun limits list p q o s (Ok outcome)
    → HasSaidAll p.asked.options.ignore (database_of old) (database_of new) (λ path. (None, None)) (left_out_of list old new)
    o.delivered s.delivered
a_run_says_all limits list p q o s old new gives none_gives old_bytes new_bytes paths others digest outcome run =
    subst (λ there. HasSaidAll p.asked.options.ignore (database_of old) (database_of new) there (left_out_of list old new)
    o.delivered s.delivered) (λ i path. (no_entries_are_none path i, no_entries_are_none path i))
    (a_trusted_run_says_all limits list p q o s old new empty_database empty_database gives none_gives old_bytes new_bytes paths others
    digest outcome run)

-- After a fault it has not written complete lines, unless the output failed over four sound texts: none of the lines that have been
-- written is a last one.
pub a_fault_leaves_lines_unfinished : (limits : Limits) (list : ListRead) (p q : PairSeen) (o s : SinkSeen)
    (old new trusted_old trusted_new : List ℕ)
    → Gives p old new → Gives q trusted_old trusted_new → AreBytes old → AreBytes new
    → ArePathsOfBytes p.asked → ArePathsOfBytes q.asked
    → (fault : PairFault) → IsLinesRun limits list p q o s (Err fault)
    → LeavesUnfinished limits old new trusted_old trusted_new fault
    → (before whole rest : List ℕ) (all : List (List Field)) → o.delivered ≡ Some before
    → s.delivered ≡ Some (before ++ (whole ++ rest)) → AreJsonLines whole all → AreComplete all → ⊥
a_fault_leaves_lines_unfinished limits list p q o s old new trusted_old trusted_new gives trusted_gives old_bytes new_bytes paths others
    fault run left =
    no_fault_completes_lines limits list p q o s old new trusted_old trusted_new gives trusted_gives fault run left old_bytes new_bytes
    paths others
