-- What the readings and the counting pass have found, and the report on it.
use Rattle.std.specs.Prelude.{ℕ, ◌≡◌, List}
use Rattle.aide_conf.specs.declared.options.Options.{Options}
use Rattle.aide_conf.specs.declared.task.Task.{Task}
use Rattle.aide_db.specs.Giving.{columns_of_text}
use Rattle.aide_db.specs.Map.{database_of}
use Rattle.aide_entry.specs.Skipped.{skipped_in}
use Rattle.aide_report_specs.specs.Report.{Origin}
use Rattle.aide_merge.specs.Outcomes.{counts_of}
use Rattle.aide_report.specs.declared.finding.Finding.{Finding}

-- for two sound texts: the counts of their maps, and the columns that were skipped
pub record IsFinding (options : Options) (finding : Finding) (old new : List ℕ) : Type 0 where
  pub counts : finding.counts ≡ counts_of options (database_of old) (database_of new)
  pub skipped_old : finding.skipped_old ≡ skipped_in (columns_of_text old)
  pub skipped_new : finding.skipped_new ≡ skipped_in (columns_of_text new)

-- what the report says about the old database itself
abbrev pub old_origin : Task → Finding → Origin
old_origin task finding = record { path = task.old_path.now; digest = finding.digests.of_old }

-- what the report says about the new database itself
abbrev pub new_origin : Task → Finding → Origin
new_origin task finding = record { path = task.new_path.now; digest = finding.digests.of_new }
