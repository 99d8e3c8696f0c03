-- The numbers in the last line, over two maps, and the outcome of a run that has counted them.
use Rattle.std.specs.Prelude.{ℕ, ◌+◌, ◌&&◌, Bool, true, false, Option, Some, None, List, length}
use Rattle.std.specs.List.{filter}
use Rattle.aide_line_text.specs.declared.account.Account.{Account}
use Rattle.aide_line_text.specs.declared.account.Account.TheVariants.{LeftOut, Old, Trusted}
use Rattle.aide_conf.specs.declared.options.Options.{Options}
use Rattle.aide_db.specs.Map.{Database}
use Rattle.aide_line_text.specs.declared.counts.LineCounts.{LineCounts}
use Rattle.aide_line_run.specs.ChangeLines.{Accounts}
use Rattle.aide_merge.specs.Compare.{changes}
use Rattle.aide_merge.specs.Said.{PathChange}
use Rattle.aide_merge.specs.Outcomes.{counts_of, status_of}
use Rattle.aide_merge.specs.Said.{all_listed, is_in}
use Rattle.aide_merge.specs.declared.outcome.Outcome.{Outcome}

-- whether the old entry accounts for a change
abbrev pub is_old : Option Account → Bool
is_old (Some Old) = true
is_old _ = false

-- whether a trusted machine accounts for a change
abbrev pub is_trusted : Option Account → Bool
is_trusted (Some Trusted) = true
is_trusted _ = false

-- whether a list leaves a change out
abbrev pub is_left_out : Option Account → Bool
is_left_out (Some (LeftOut number)) = true
is_left_out _ = false

-- whether a change has no account
abbrev pub is_other : Option Account → Bool
is_other None = true
is_other (Some account) = false

-- whether a change has a line, and its account passes a test
abbrev pub is_line_with : Options → Accounts → (Option Account → Bool) → PathChange → Bool
is_line_with options account passes change =
    is_in options all_listed change && passes (account change)

-- how many lines have an account that passes a test
abbrev pub lines_with : Options → Accounts → (Option Account → Bool) → List PathChange → ℕ
lines_with options account passes changes =
    length (filter (is_line_with options account passes) changes)

-- the numbers of the report, and the numbers of lines by what accounts for their changes
abbrev pub line_counts : Options → Accounts → (old new : Database) → LineCounts
line_counts options account old new = record {
  total = (counts_of options old new).total;
  added = (counts_of options old new).added;
  removed = (counts_of options old new).removed;
  changed = (counts_of options old new).changed;
  same_as_old = lines_with options account is_old (changes old new);
  same_as_trusted = lines_with options account is_trusted (changes old new);
  left_out = lines_with options account is_left_out (changes old new);
  others = lines_with options account is_other (changes old new);
}

-- how many lines of entries there are
abbrev pub entry_count : LineCounts → ℕ
entry_count counts = counts.added + (counts.removed + counts.changed)

-- how many lines of entries there are, by what accounts for their changes
abbrev pub account_count : LineCounts → ℕ
account_count counts =
    counts.same_as_old + (counts.same_as_trusted + (counts.left_out + counts.others))

-- the status of a run that finds these counts
abbrev pub status_by : LineCounts → ℕ
status_by counts = status_of counts.added counts.removed counts.changed

-- the outcome of a run that has counted these lines, with the skipped columns of each side
abbrev pub line_outcome : LineCounts → (skipped_old skipped_new : ℕ) → Outcome
line_outcome counts skipped_old skipped_new = record {
  added = counts.added;
  removed = counts.removed;
  changed = counts.changed;
  total = counts.total;
  skipped_old = skipped_old;
  skipped_new = skipped_new;
}
