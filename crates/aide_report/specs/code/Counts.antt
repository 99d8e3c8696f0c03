-- Counts of changes.
use Rattle.std.specs.Prelude.{◌≡◌, ℕ, ◌+◌, ◌<◌, List, count_by}
use Rattle.aide_conf.specs.declared.options.Options.{Options}
use Rattle.aide_fields.specs.Attributes.{Attributes}
use Rattle.aide_merge.specs.Changed.{differ_by}
use Rattle.aide_merge.specs.Changes.{is_added, is_removed, is_changed, is_of_new}
use Rattle.aide_merge.specs.Compare.{Change}
use Rattle.aide_merge.specs.Said.{is_shown_entry}
use Rattle.aide_text.specs.declared.counts.Counts.{Counts}

-- the counts so far plus the counts of the rest are the counts of all changes
pub record Completes (options : Options) (counts : Counts)
    (rest all : List (Change (List ℕ) Attributes)) : Type 0 where
  pub added : counts.added + count_by is_added rest ≡ count_by is_added all
  pub removed : counts.removed + count_by is_removed rest ≡ count_by is_removed all
  pub changed : counts.changed + count_by (is_changed (differ_by options.ignore)) rest
      ≡ count_by (is_changed (differ_by options.ignore)) all
  pub total : counts.total + count_by is_of_new rest ≡ count_by is_of_new all
  pub shown : counts.shown + count_by (is_shown_entry options) rest
      ≡ count_by (is_shown_entry options) all

-- each count is below a limit
pub record AreBelow (counts : Counts) (limit : ℕ) : Type 0 where
  pub added : counts.added < limit
  pub removed : counts.removed < limit
  pub changed : counts.changed < limit
  pub total : counts.total < limit
  pub shown : counts.shown < limit
