-- The lines of two databases with a trusted pair.
use Rattle.std.specs.Prelude.{◌≡◌, ℕ, List, [], ◌++◌, Option, true}
use Rattle.std.specs.FinMap.{get}
use Rattle.std.specs.FinMap.Entries.{is_sorted}
use Rattle.std.specs.Io.KnownBytes.{Appends}
use Rattle.sha2.specs.Sha256.{sha256}
use Rattle.aide_agreement.specs.Account.{same_as}
use Rattle.aide_db.specs.Giving.{columns_of_text}
use Rattle.aide_db.specs.Map.{Database, database_of}
use Rattle.aide_fields.specs.Path.{path_cmp}
use Rattle.aide_entry.specs.Skipped.{skipped_in}
use Rattle.aide_line_text.specs.Frame.{ReadFacts, closing_line, opening_line}
use Rattle.aide_line_text.specs.declared.counts.LineCounts.{LineCounts}
use Rattle.aide_merge.specs.Asked.{Asked}
use Rattle.aide_line_run.specs.ChangeLines.{Accounts, change_lines}
use Rattle.aide_merge.specs.Compare.{changes}
use Rattle.aide_merge.specs.Said.{PathChange}
use Rattle.aide_line_run.specs.LineCounts.{account_count, entry_count, line_counts, line_outcome}
use Rattle.aide_line_run.specs.LineCounts.{status_by}
use Rattle.aide_merge.specs.RightAnswer.{Report}
use Rattle.aide_merge.specs.Outcomes.{outcome_over}
use Rattle.aide_merge.specs.declared.outcome.Outcome.{Outcome}
use Rattle.aide_text.specs.Sent.{SendsPart}
use Rattle.aide_line_run.specs.Listed.{Leaves, ListRead, account_by, leaves_between}
use Rattle.aide_line_run.specs.Sought.{Accounted, accounted_lines, changes_of, sought_by}

-- the facts about a text that the last line contains: its SHA-256, and the columns that were skipped
abbrev pub read_of : List ℕ → ReadFacts
read_of text = record { digest = sha256 text; skipped = skipped_in (columns_of_text text) }

-- the facts about all four databases that the last line contains
pub record PairFacts : Type 0 where
  pub of_old : ReadFacts
  pub of_new : ReadFacts
  pub of_trusted_old : ReadFacts
  pub of_trusted_new : ReadFacts

-- what accounts for each change, by the entries of the trusted maps at its path and by what a list leaves out
abbrev pub by_trusted : Leaves → (trusted_old trusted_new : Database) → Accounts
by_trusted leaves trusted_old trusted_new change =
    account_by (same_as change.1 (get trusted_old change.0, get trusted_new change.0))
    (leaves change)

-- the first line: the paths of all four databases
abbrev pub first_line : (asked trusted : Asked) → List ℕ
first_line asked trusted = opening_line asked.old_path asked.new_path
    trusted.old_path trusted.new_path

-- the last line
abbrev pub last_line : ListRead → PairFacts → LineCounts → List ℕ
last_line list facts counts = closing_line facts.of_old facts.of_new
    facts.of_trusted_old facts.of_trusted_new list.digest counts (status_by counts)

-- All lines, with these facts, counts and changes: the first line, a line for each added, removed or changed entry, and
-- the last line. The line of an entry names the account of its change, if there is one.
unfoldable pub lines_framed : ListRead → (asked trusted : Asked) → PairFacts → Accounts
    → LineCounts → List PathChange → List ℕ
lines_framed list asked trusted facts account counts changes =
    (first_line asked trusted ++ change_lines asked.options account changes)
    ++ last_line list facts counts

-- the facts about four texts that the last line contains
abbrev pub facts_of_texts : (old new trusted_old trusted_new : List ℕ) → PairFacts
facts_of_texts old new trusted_old trusted_new = record {
  of_old = read_of old;
  of_new = read_of new;
  of_trusted_old = read_of trusted_old;
  of_trusted_new = read_of trusted_new;
}

-- the lines over two maps from paths to attributes, by what accounts for their changes
abbrev pub lines_of_pairs : ListRead → (asked trusted : Asked) → PairFacts → Accounts
    → (old new : Database) → List ℕ
lines_of_pairs list asked trusted facts account old new =
    lines_framed list asked trusted facts account (line_counts asked.options account old new)
    (changes old new)

-- what accounts for the changes of two texts, by the maps of the trusted texts and by a list
abbrev pub by_texts : ListRead → (old new trusted_old trusted_new : List ℕ) → Accounts
by_texts list old new trusted_old trusted_new =
    by_trusted (leaves_between list old new) (database_of trusted_old)
    (database_of trusted_new)

-- The lines over four sound texts, and their outcome. The outcome does not depend on the trusted texts or on the list.
unfoldable pub lines_of_texts : ListRead → (asked trusted : Asked)
    → (old new trusted_old trusted_new : List ℕ)
    → Report
lines_of_texts list asked trusted old new trusted_old trusted_new = record {
  text = lines_of_pairs list asked trusted (facts_of_texts old new trusted_old trusted_new)
      (by_texts list old new trusted_old trusted_new) (database_of old) (database_of new);
  outcome = outcome_over asked.options old new;
}

-- A beginning of the first line and the lines of these changes has been written, with an account or none for each
-- change. If the changes are in path order, the accounts come from the two entries, the changes of the trusted pair at
-- their paths, or the list.
pub record BeginsLines (leaves : Leaves) (asked trusted : Asked)
    (changes trusted_changes : List PathChange)
    (before after : Option (List ℕ)) : Type 0 where
  pub accounted : List Accounted
  pub all : changes_of accounted ≡ changes
  pub part : SendsPart (first_line asked trusted ++ accounted_lines asked.options accounted)
      before after
  pub sought : is_sorted path_cmp changes ≡ true → SendsPart
      (first_line asked trusted
      ++ change_lines asked.options (sought_by leaves trusted_changes) changes)
      before after

-- The first line has been written with the paths, the last line with some digests, the skipped columns and the counts
-- of this outcome, and bytes between them only if an entry was added, removed or changed. What accounts for the lines
-- are as many as they are. The skipped columns of the trusted pair are no part of the outcome.
pub record AreAllLines (list : ListRead) (asked trusted : Asked) (outcome : Outcome)
    (before after : Option (List ℕ)) : Type 0 where
  pub facts : PairFacts
  pub skipped_old : facts.of_old.skipped ≡ outcome.skipped_old
  pub skipped_new : facts.of_new.skipped ≡ outcome.skipped_new
  pub counts : LineCounts
  pub told : line_outcome counts outcome.skipped_old outcome.skipped_new ≡ outcome
  pub accounted : account_count counts ≡ entry_count counts
  pub between : List ℕ
  pub bytes : Appends before after ((first_line asked trusted ++ between)
      ++ last_line list facts counts)
  pub alone : entry_count counts ≡ 0 → between ≡ []
