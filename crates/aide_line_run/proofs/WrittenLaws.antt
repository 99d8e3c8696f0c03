-- What has gone out with a trusted pair at a fault, and what is to be written.
use Rattle.std.specs.Io.KnownBytes.{Appends}
use Rattle.std.specs.Prelude.{◌≡◌, ℕ, List, [], ◌∷◌, ◌++◌, map, Option, None}
use Rattle.std.proofs.Common.{refl, sym, ap, ◌∙◌, append_assoc}
use Rattle.aide_db.specs.Map.{database_of}
use Rattle.aide_db.specs.declared.limits.Limits.{Limits}
use Rattle.aide_merge.specs.Asked.{Asked}
use Rattle.aide_line_run.specs.ChangeLines.{change_lines}
use Rattle.aide_merge.specs.Said.{PathChange}
use Rattle.aide_line_run.specs.LineCounts.{line_counts}
use Rattle.aide_merge.proofs.TextLemmas.{pass_is_changes}
use Rattle.aide_text.specs.Sent.{SendsPart}
use Rattle.aide_line_run.specs.Lines.{BeginsLines, lines_framed, by_texts, last_line, facts_of_texts, lines_of_texts}
use Rattle.aide_line_run.specs.Lines.{first_line}
use Rattle.aide_line_run.specs.RunEnds.{AreAllSound, changes_between}
use Rattle.aide_line_run.specs.Listed.{Leaves, ListRead, leaves_between}
use Rattle.aide_line_run.specs.Sought.{Accounted, changes_of, sought_by}
use Rattle.aide_line_run.proofs.Laws.{pass_sorted, sought_is}

abbrev unaccounted : List PathChange → List Accounted
unaccounted changes = map (λ change. (change, None)) changes

unaccounted_are : (changes : List PathChange) → changes_of (unaccounted changes) ≡ changes
unaccounted_are [] = refl
unaccounted_are (c ∷ cs) = ap (λ l. c ∷ l) (unaccounted_are cs)

-- Nothing is a beginning of any lines.
pub begins_with_nothing : (leaves : Leaves) (asked trusted : Asked) (changes trusted_changes : List PathChange)
    (before after : Option (List ℕ)) → Appends before after [] → BeginsLines leaves asked trusted changes trusted_changes before after
begins_with_nothing leaves asked trusted changes trusted_changes before after none = record {
  accounted = unaccounted changes;
  all = unaccounted_are changes;
  part = record { front = []; rest = _; whole = refl; bytes = none };
  sought = λ in_order. record { front = []; rest = _; whole = refl; bytes = none };
}

module _ (limits : Limits) (list : ListRead) (asked trusted : Asked) (old new trusted_old trusted_new : List ℕ)
    (sound : AreAllSound limits old new trusted_old trusted_new) where
  -- The lines of four sound texts begin with what comes before the last line.
  pub lines_then_closed : (lines_of_texts list asked trusted old new trusted_old trusted_new).text
      ≡ (first_line asked trusted
      ++ change_lines asked.options (sought_by (leaves_between list old new) (changes_between trusted_old trusted_new))
      (changes_between old new))
      ++ last_line list (facts_of_texts old new trusted_old trusted_new)
      (line_counts asked.options (by_texts list old new trusted_old trusted_new) (database_of old) (database_of new))
  unfolding lines_of_texts lines_framed
  lines_then_closed = sym (λ i. (first_line asked trusted
      ++ change_lines asked.options (sought_is (leaves_between list old new) limits trusted_old trusted_new
      sound.of_trusted_old sound.of_trusted_new i)
      (sym (pass_is_changes limits old new sound.of_old sound.of_new) i))
      ++ last_line list (facts_of_texts old new trusted_old trusted_new)
      (line_counts asked.options (by_texts list old new trusted_old trusted_new) (database_of old) (database_of new)))

  -- What has gone out of four sound texts at a fault is a beginning of all their lines.
  pub begins_what_is_written : (before after : Option (List ℕ))
      → BeginsLines (leaves_between list old new) asked trusted (changes_between old new)
      (changes_between trusted_old trusted_new) before after
      → SendsPart (lines_of_texts list asked trusted old new trusted_old trusted_new).text before after
  begins_what_is_written before after begins =
      let last = last_line list (facts_of_texts old new trusted_old trusted_new)
      (line_counts asked.options (by_texts list old new trusted_old trusted_new) (database_of old) (database_of new)) in
      let part = begins.sought (pass_sorted limits old new sound.of_old sound.of_new) in
      record {
        front = part.front;
        rest = part.rest ++ last;
        whole = lines_then_closed ∙ ap (λ l. l ++ last) part.whole ∙ append_assoc part.front part.rest last;
        bytes = part.bytes;
      }
