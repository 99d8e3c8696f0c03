-- The numbers of changes with what accounts for them.
use Rattle.std.specs.Prelude.{Bool, ◌&&◌, List, Option, count_by}
use Rattle.aide_line_text.specs.declared.account.Account.{Account}
use Rattle.aide_conf.specs.declared.options.Options.{Options}
use Rattle.aide_line_text.specs.declared.counts.LineCounts.{LineCounts}
use Rattle.aide_merge.specs.Changed.{differ_by}
use Rattle.aide_merge.specs.Changes.{is_added, is_removed, is_changed, is_of_new}
use Rattle.aide_merge.specs.Said.{PathChange}
use Rattle.aide_line_run.specs.LineCounts.{is_left_out, is_old, is_other, is_trusted}
use Rattle.aide_merge.specs.Said.{all_listed, is_in}
use Rattle.aide_line_run.specs.Sought.{Accounted}

-- whether the change passes
abbrev pub of_change : (PathChange → Bool) → Accounted → Bool
of_change passes m = passes m.0

-- whether the change has a line, and what accounts for it passes
abbrev pub of_account : Options → (Option Account → Bool) → Accounted → Bool
of_account options passes m = is_in options all_listed m.0 && passes m.1

-- the numbers of the last line
abbrev pub tally_of : Options → List Accounted → LineCounts
tally_of options ms = record {
  total = count_by (of_change is_of_new) ms;
  added = count_by (of_change is_added) ms;
  removed = count_by (of_change is_removed) ms;
  changed = count_by (of_change (is_changed (differ_by options.ignore))) ms;
  same_as_old = count_by (of_account options is_old) ms;
  same_as_trusted = count_by (of_account options is_trusted) ms;
  left_out = count_by (of_account options is_left_out) ms;
  others = count_by (of_account options is_other) ms;
}
