-- The answer of a session: its output, its error lines and its status. The arguments and the files determine it, and
-- for a configuration that is only checked, the text to write about it.
use Rattle.std.specs.Prelude.{◌≡◌, ◌⊎◌, ℕ, ◌^◌, Bool, true, false, List, [], Ok, Err, Result}
use Rattle.std.specs.Prelude.{Option, Some, None}
use Rattle.aide_conf.specs.Settings.{Configured}
use Rattle.aide_conf.specs.declared.options.Options.{Options}
use Rattle.aide_db.specs.declared.fault.DbFault.{DbFault}
use Rattle.aide_db.specs.Database.{IsSound}
use Rattle.aide_db.specs.declared.limits.Limits.{Limits}
use Rattle.aide_db.specs.declared.side.Side.TheVariants.{Old, New}
use Rattle.aide_merge.specs.Asked.{Asked}
use Rattle.aide_merge.specs.RightAnswer.{Report, IsFirstFaultOf}
use Rattle.aide_report_specs.specs.Runs.{Runs}
use Rattle.aide_merge.specs.Outcomes.{status_of}
use Rattle.aide_site.specs.Files.{Files}
use Rattle.aide_site.specs.JobSettings.{AreSettings, no_settings_line, no_settings_status}
use Rattle.aide_site.specs.declared.job_config.NoSettings.{NoSettings}
use Rattle.aide_words.specs.Job.{JobText}
use Rattle.aide_site.specs.Lines.{database_line, open_line, outcome_lines}
use Rattle.aide_site.specs.Says.{Says, usage_by}
use Rattle.aide_site.specs.declared.whose.Whose.TheVariants.{Compared}

-- what a session writes to standard output, as a value of this type, and to standard error, and its status
pub record AnswerOf (O : Type 0) : Type 0 where
  pub output : O
  pub errors : List ℕ
  pub status : ℕ

-- an answer whose output is a text
abbrev pub Answer : Type 0
Answer = AnswerOf (List ℕ)

-- the paths that the arguments and the configuration name
pub record Named : Type 0 where
  pub config : List ℕ
  pub old_path : List ℕ
  pub new_path : List ℕ

-- what a comparison is asked for, by its options and the two paths
abbrev pub asked_by : Options → Named → Asked
asked_by options named = record {
  options = options;
  old_path = named.old_path;
  new_path = named.new_path;
}

-- no output, only lines on standard error, and a status
abbrev pub refused : List ℕ → ℕ → Answer
refused lines status = record { output = []; errors = lines; status = status }

-- the answer for a configuration without a fault that is only checked, if nothing is written about it
abbrev pub checked : Answer
checked = record { output = []; errors = []; status = 0 }

-- the same, by what is to be written of a configuration: the text is, if there is one
abbrev pub checked_by : Says → Configured → Answer
checked_by None s = checked
checked_by (Some says) s = record { output = says s; errors = []; status = 0 }

-- a line of a database has at most 1,048,576 bytes, and a database at most 2 ^ 40
abbrev pub limits : Limits
limits = record { line = 1048576; bytes = 2 ^ 40 }

-- The answer of a comparison of two databases: the report, or the first fault of a database.
abbrev pub answer_of_run : Result Report DbFault → Answer
answer_of_run (Ok report) = record {
  output = report.text;
  errors = outcome_lines report.outcome;
  status = status_of report.outcome.added report.outcome.removed report.outcome.changed;
}
answer_of_run (Err fault) = refused (database_line Compared fault) 24

-- The answer of a comparison, by what is at the paths of the two databases. If there is no old one,
-- the answer is that the old one was not opened. If only the new one is missing, there are two
-- cases: if the old one is sound, the answer is that the new one was not opened, otherwise it is
-- the first fault of the old one. If both are there, it is the answer of their comparison.
abbrev pub IsCompared : Options → Named → Option (List ℕ) → Option (List ℕ) → Answer → Type 0
IsCompared options named None new a = a ≡ refused (open_line Compared Old named.old_path) 18
IsCompared options named (Some old) None a =
    (IsSound limits old × (a ≡ refused (open_line Compared New named.new_path) 18))
    ⊎ ((fault : DbFault) × IsFirstFaultOf limits Old old fault
    × (a ≡ refused (database_line Compared fault) 24))
IsCompared options named (Some old) (Some new) a = (run : Result Report DbFault)
    × Runs limits (asked_by options named) old new run × (a ≡ answer_of_run run)

-- The comparison of what is at the two paths that the settings name. At each path there is a
-- database or no file.
pub record Compares (files : Files) (s : Configured) (named : Named) (a : Answer) : Type 0 where
  pub old_is : s.old_path ≡ Some named.old_path
  pub new_is : s.new_path ≡ Some named.new_path
  pub old_file : Option (List ℕ)
  pub new_file : Option (List ℕ)
  pub old_told : files named.old_path ≡ Some old_file
  pub new_told : files named.new_path ≡ Some new_file
  pub then_is : IsCompared s.options named old_file new_file a

-- the answer to a job that asks for a comparison or not, by its settings or by why it has none
abbrev pub IsSettingsAnswerBy : Says → Files → Result Configured NoSettings → Bool → Named → Answer
    → Type 0
IsSettingsAnswerBy says files (Ok s) true named a = Compares files s named a
IsSettingsAnswerBy says files (Ok s) false named a = a ≡ checked_by says s
IsSettingsAnswerBy says files (Err why) compare named a =
    a ≡ refused (no_settings_line named.config why) (no_settings_status why)

-- the answer to a job if it is known what is at its configuration's path
pub record IsJobAnswerBy (says : Says) (files : Files) (job : JobText) (named : Named)
    (a : Answer) : Type 0 where
  pub config_is : named.config ≡ job.config
  pub settings : Result Configured NoSettings
  pub are : AreSettings files job settings
  pub then_is : IsSettingsAnswerBy says files settings job.compare named a

-- The answer to what the arguments ask for, over these files. It is the first fault of the
-- arguments, of the configuration or of a database, or else what the job asks for. A named file that
-- is not there counts as a fault. `named` contains the paths that are named on the way.
abbrev pub IsAnswerBy : Says → Files → Option JobText → Named → Answer → Type 0
IsAnswerBy says files None named a = a ≡ refused (usage_by says) 15
IsAnswerBy says files (Some job) named a = IsJobAnswerBy says files job named a
