-- The numbers of the last line, one change after another.
use Rattle.std.specs.Prelude.{ℕ, ◌+◌, ◌<◌, Option, Some, None, List, count_by}
use Rattle.aide_agreement.specs.Account.{Pair}
use Rattle.aide_line_text.specs.declared.account.Account.{Account}
use Rattle.aide_line_text.specs.declared.account.Account.TheVariants.{LeftOut, Old, Trusted}
use Rattle.aide_conf.specs.declared.options.Options.{Options}
use Rattle.aide_line_text.specs.declared.counts.LineCounts.{LineCounts}
use Rattle.aide_line_run.specs.ChangeLines.{Accounts}
use Rattle.aide_merge.specs.Changed.{differ_by}
use Rattle.aide_merge.specs.Changes.{is_added, is_removed, is_changed, is_of_new}
use Rattle.aide_merge.specs.Said.{PathChange}
use Rattle.aide_line_run.specs.LineCounts.{is_left_out, is_line_with, is_old, is_other, is_trusted}

-- the numbers of a list of changes
abbrev pub tally : Options → Accounts → List PathChange → LineCounts
tally options account changes = record {
  total = count_by is_of_new changes;
  added = count_by is_added changes;
  removed = count_by is_removed changes;
  changed = count_by (is_changed (differ_by options.ignore)) changes;
  same_as_old = count_by (is_line_with options account is_old) changes;
  same_as_trusted = count_by (is_line_with options account is_trusted) changes;
  left_out = count_by (is_line_with options account is_left_out) changes;
  others = count_by (is_line_with options account is_other) changes;
}

-- the sums of two counts
abbrev pub sum_of_counts : LineCounts → LineCounts → LineCounts
sum_of_counts a b = record {
  total = a.total + b.total;
  added = a.added + b.added;
  removed = a.removed + b.removed;
  changed = a.changed + b.changed;
  same_as_old = a.same_as_old + b.same_as_old;
  same_as_trusted = a.same_as_trusted + b.same_as_trusted;
  left_out = a.left_out + b.left_out;
  others = a.others + b.others;
}

-- counts with the entry of the new database, if there is one
abbrev pub with_entry : LineCounts → Pair → LineCounts
with_entry counts (old, None) = counts
with_entry counts (old, Some new) = record counts { total = counts.total + 1 }

-- counts with the line of the entries of both databases at one path
abbrev pub with_kind : LineCounts → Pair → LineCounts
with_kind counts (None, None) = counts
with_kind counts (None, Some new) = record counts { added = counts.added + 1 }
with_kind counts (Some old, None) = record counts { removed = counts.removed + 1 }
with_kind counts (Some old, Some new) = record counts { changed = counts.changed + 1 }

-- counts with what accounts for the change of a line
abbrev pub with_account : LineCounts → Option Account → LineCounts
with_account counts (Some Old) = record counts { same_as_old = counts.same_as_old + 1 }
with_account counts (Some Trusted) = record counts { same_as_trusted = counts.same_as_trusted + 1 }
with_account counts (Some (LeftOut number)) = record counts { left_out = counts.left_out + 1 }
with_account counts None = record counts { others = counts.others + 1 }

-- each count is below a limit
pub record AreLinesBelow (counts : LineCounts) (limit : ℕ) : Type 0 where
  pub total : counts.total < limit
  pub added : counts.added < limit
  pub removed : counts.removed < limit
  pub changed : counts.changed < limit
  pub same_as_old : counts.same_as_old < limit
  pub same_as_trusted : counts.same_as_trusted < limit
  pub left_out : counts.left_out < limit
  pub others : counts.others < limit
