-- What ties the lines to the report of the same task, and that there are as many lines of changes as are counted.
use Rattle.std.proofs.Common.{◌≡◌, ◌∙◌, Bool, true, false, refl, sym, ap, length}
use Rattle.std.specs.Prelude.{◌||◌}
use Rattle.std.proofs.lemmas.List.Sums.{length-filter}
use Rattle.aide_conf.specs.declared.options.Options.{Options}
use Rattle.aide_db.specs.Map.{Database}
use Rattle.aide_fields.specs.Path.{path_cmp}
use Rattle.aide_fields.proofs.PathLaws.{path_cmp_total, path_cmp-IsAntisymmetric}
use Rattle.aide_line_run.specs.ChangeLines.{Accounts, listed_changes, widest}
use Rattle.aide_merge.specs.Changed.{differ_by}
use Rattle.aide_merge.specs.Changes.{is_added, is_removed, is_changed}
use Rattle.aide_merge.specs.Compare.{changes}
use Rattle.aide_merge.specs.Said.{PathChange}
use Rattle.aide_line_run.specs.LineCounts.{account_count, entry_count, is_left_out, is_line_with}
use Rattle.aide_line_run.specs.LineCounts.{is_old, is_other, is_trusted}
use Rattle.aide_line_run.specs.LineCounts.{line_counts}
use Rattle.aide_merge.specs.Said.{all_listed, is_in}
use Rattle.aide_text.specs.Section.{contents_of, row, row_of}
use Rattle.aide_text.specs.declared.section.Section.TheVariants.{AddedEntries, RemovedEntries, ChangedEntries, AllEntries}
use Rattle.aide_merge.proofs.Laws.{added_count, removed_count, changed_count, total_count}
use Rattle.aide_line_run.proofs.LineTallyLemmas.{all_kinds, tally_accounted}
use Rattle.aide_line_run.specs.code.LineTally.{tally}

-- ---- the numbers of the last line are those of the maps

module _ (options : Options) (account : Accounts) (old new : Database) where
  pub tally_is : tally options account (changes old new) ≡ line_counts options account old new
  tally_is = λ i. record {
    total = total_count path_cmp path_cmp_total path_cmp-IsAntisymmetric old new i;
    added = added_count path_cmp path_cmp_total path_cmp-IsAntisymmetric old new i;
    removed = removed_count path_cmp path_cmp_total path_cmp-IsAntisymmetric old new i;
    changed = changed_count path_cmp path_cmp_total (differ_by options.ignore) path_cmp-IsAntisymmetric old new i;
    same_as_old = sym (length-filter (is_line_with options account is_old) (changes old new)) i;
    same_as_trusted = sym (length-filter (is_line_with options account is_trusted) (changes old new)) i;
    left_out = sym (length-filter (is_line_with options account is_left_out) (changes old new)) i;
    others = sym (length-filter (is_line_with options account is_other) (changes old new)) i;
  }

  -- there are as many lines as the last line counts
  pub as_many_lines_as_counted : length (listed_changes options (changes old new))
      ≡ entry_count (line_counts options account old new)
  as_many_lines_as_counted =
      length-filter (is_in options all_listed) (changes old new) ∙ all_kinds options account (changes old new)
      ∙ ap entry_count tally_is

  -- each line is counted once more, by what accounts for its change
  pub each_line_is_accounted : account_count (line_counts options account old new)
      ≡ entry_count (line_counts options account old new)
  each_line_is_accounted =
      sym (ap account_count tally_is) ∙ tally_accounted options account (changes old new) ∙ ap entry_count tally_is

-- ---- which paths have a line

or_nothing : (b : Bool) → b ≡ (b || false)
or_nothing true = refl
or_nothing false = refl

-- A path has a line exactly if the list of added, of removed or of changed entries has it of the report that shows most.
pub lines_are_of_listed_entries : (options : Options) (change : PathChange) → is_in options all_listed change
    ≡ (is_in (widest options) (contents_of AddedEntries) change
    || (is_in (widest options) (contents_of RemovedEntries) change || is_in (widest options) (contents_of ChangedEntries) change))
unfolding row_of row
lines_are_of_listed_entries options change = λ i.
    or_nothing (is_added change) i || (or_nothing (is_removed change) i || is_changed (differ_by options.ignore) change)

-- The same if that report has one list of all entries.
pub lines_are_of_all_entries : (options : Options) (change : PathChange)
    → is_in options all_listed change ≡ is_in (widest options) (contents_of AllEntries) change
unfolding row_of row
lines_are_of_all_entries options change = refl
