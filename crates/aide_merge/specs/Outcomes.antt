-- What is counted of two maps, the outcome and the status.
use Rattle.std.specs.Prelude.{ℕ, ◌+◌, ◌==◌, if◌then◌else◌, List, length, count_by}
use Rattle.std.specs.FinMap.{len}
use Rattle.aide_conf.specs.declared.options.Options.{Options}
use Rattle.aide_db.specs.Giving.{columns_of_text}
use Rattle.aide_entry.specs.Skipped.{skipped_in}
use Rattle.aide_merge.specs.Changed.{differ_by}
use Rattle.aide_merge.specs.Compare.{added, removed, changed, changes}
use Rattle.aide_merge.specs.Said.{is_shown_entry}
use Rattle.aide_db.specs.Map.{Database, database_of}
use Rattle.aide_text.specs.declared.counts.Counts.{Counts}
use Rattle.aide_merge.specs.declared.outcome.Outcome.{Outcome}

-- how many paths were added, removed and changed, how many the new map contains, and how many show an attribute
abbrev pub counts_of : Options → Database → Database → Counts
counts_of options old new = record {
  added = length (added old new);
  removed = length (removed old new);
  changed = length (changed (differ_by options.ignore) old new);
  total = len new;
  shown = count_by (is_shown_entry options) (changes old new);
}

-- what a run returns, with the skipped columns of each side, a bit for each column
abbrev pub outcome_by : Counts → ℕ → ℕ → Outcome
outcome_by counts skipped_old skipped_new = record {
  added = counts.added;
  removed = counts.removed;
  changed = counts.changed;
  total = counts.total;
  skipped_old = skipped_old;
  skipped_new = skipped_new;
}

-- the outcome of a run over two sound texts
abbrev pub outcome_over : Options → List ℕ → List ℕ → Outcome
outcome_over options old new = outcome_by (counts_of options (database_of old) (database_of new))
    (skipped_in (columns_of_text old)) (skipped_in (columns_of_text new))

-- the sum of 1 if an entry was added, 2 if one was removed, and 4 if one is changed
abbrev pub status_of : ℕ → ℕ → ℕ → ℕ
status_of added removed changed =
    (if added == 0 then 0 else 1)
    + ((if removed == 0 then 0 else 2) + (if changed == 0 then 0 else 4))
