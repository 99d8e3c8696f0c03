-- The answer of a session with a trusted pair: its output, its error lines and its status. The
-- job and the files determine it.
use Rattle.std.specs.Prelude.{◌≡◌, ◌⊎◌, ℕ, List, [], Ok, Err, Result, Option, Some}
use Rattle.std.specs.Io.KnownBytes.{Appends}
use Rattle.aide_conf.specs.ReadResult.{ReadsAs}
use Rattle.aide_conf.specs.Settings.{Configured}
use Rattle.aide_conf.specs.declared.task.Need.TheVariants.{Compare}
use Rattle.aide_db.specs.Side.{by_side}
use Rattle.aide_db.specs.declared.side.Side.{Side}
use Rattle.aide_patterns.specs.Line.{RuleText}
use Rattle.aide_patterns.specs.List.{IsReading}
use Rattle.aide_patterns.specs.declared.fault.ListFault.{ListFault}
use Rattle.aide_merge.specs.Asked.{Asked}
use Rattle.aide_merge.specs.FaultStatus.{fault_status}
use Rattle.aide_merge.specs.Outcomes.{status_of}
use Rattle.aide_merge.specs.RightAnswer.{Report}
use Rattle.aide_site.specs.Answer.{AnswerOf, Named, asked_by, limits}
use Rattle.aide_site.specs.Ends.{Written}
use Rattle.aide_site.specs.Files.{Files}
use Rattle.aide_site.specs.JobSettings.{AreSettings, comparison_of, no_settings_line}
use Rattle.aide_site.specs.JobSettings.{no_settings_status}
use Rattle.aide_site.specs.declared.job_config.NoSettings.{NoSettings}
use Rattle.aide_line_session.specs.GivenList.{list_line, list_of}
use Rattle.aide_site.specs.Lines.{outcome_lines, run_fault_line}
use Rattle.aide_site.specs.declared.whose.Whose.TheVariants as whose
use Rattle.aide_text.specs.Sent.{SendsPart}
use Rattle.aide_line_run.specs.BeforeFault.{AreBeforeFaults, FourTexts}
use Rattle.aide_line_run.specs.Lines.{BeginsLines}
use Rattle.aide_line_run.specs.RunEnds.{RunsLines, changes_between, lines_before_last}
use Rattle.aide_line_run.specs.Listed.{ListRead, leaves_between}
use Rattle.aide_line_run.specs.declared.pair_fault.PairFault.{PairFault}
use Rattle.aide_line_run.specs.declared.pair_fault.PairFault.TheVariants.{Compared, Trusted}
use Rattle.aide_words.specs.LineJob.{LineJobText}

-- the trusted pair's paths, which the arguments name
abbrev pub trusted_of : LineJobText → Named
trusted_of job = record {
  config = job.config;
  old_path = job.trusted_old;
  new_path = job.trusted_new;
}

-- No more than a beginning of what comes before the last line has been written, over four texts, sound or not.
pub record BeginsOverTexts (list : ListRead) (asked trusted : Asked) (texts : FourTexts)
    (before after : Option (List ℕ)) : Type 0 where
  -- by the changes of all entry lines, each with what accounts for it: its entries, the trusted pair or the list
  pub cut : BeginsLines (leaves_between list texts.old texts.new) asked trusted
      (changes_between texts.old texts.new)
      (changes_between texts.trusted_old texts.trusted_new) before after
  -- by the maps of what comes before the first fault of each text
  pub early : (fronts : FourTexts) → AreBeforeFaults limits texts fronts
      → SendsPart (lines_before_last list asked trusted fronts) before after

-- The output: a complete text, or no more than a beginning of the lines over four texts.
pub data LineOutput : Type 0 where
  all_lines : List ℕ → LineOutput
  start_of_lines : ListRead → (asked trusted : Asked) → FourTexts → LineOutput

-- the empty output
abbrev pub no_line : LineOutput
no_line = all_lines []

-- this has been written between two moments
abbrev pub HasWritten : LineOutput → (before after : Option (List ℕ)) → Type 0
HasWritten (all_lines text) before after = Appends before after text
HasWritten (start_of_lines list asked trusted texts) before after =
    BeginsOverTexts list asked trusted texts before after

-- no more than a beginning of it has been written
abbrev pub HasBegun : LineOutput → (before after : Option (List ℕ)) → Type 0
HasBegun (all_lines text) before after = SendsPart text before after
HasBegun (start_of_lines list asked trusted texts) before after =
    BeginsOverTexts list asked trusted texts before after

-- how it is written
abbrev pub lines_written : Written LineOutput
lines_written = record {
  whole = λ output before after. HasWritten output before after;
  begun = λ output before after. HasBegun output before after;
}

-- what a session with a trusted pair writes to standard output and to standard error, and its
-- status
abbrev pub LineAnswer : Type 0
LineAnswer = AnswerOf LineOutput

-- no output, only lines on standard error, and a status
abbrev pub refused_lines : List ℕ → ℕ → LineAnswer
refused_lines lines status = record { output = no_line; errors = lines; status = status }

-- The output if the answer is a fault, by what is at the four paths. It is a beginning of the lines that precede the
-- last one. If a file is missing, it is empty.
abbrev pub lines_at_fault : ListRead → (asked trusted : Asked)
    → (old new trusted_old trusted_new : Option (List ℕ)) → LineOutput
lines_at_fault list asked trusted (Some old) (Some new) (Some trusted_old) (Some trusted_new) =
    start_of_lines list asked trusted (record {
      old = old;
      new = new;
      trusted_old = trusted_old;
      trusted_new = trusted_new;
    })
lines_at_fault list asked trusted _ _ _ _ = no_line

-- the line for the fault that ended a run with a trusted pair, by the paths of both pairs
abbrev pub pair_fault_line : (old_path new_path trusted_old trusted_new : List ℕ) → PairFault
    → List ℕ
pair_fault_line old_path new_path trusted_old trusted_new (Compared fault) =
    run_fault_line whose.Compared old_path new_path fault
pair_fault_line old_path new_path trusted_old trusted_new (Trusted fault) =
    run_fault_line whose.Trusted trusted_old trusted_new fault

-- the status of such a fault: the same as that of a run over only this pair
abbrev pub pair_fault_status : PairFault → ℕ
pair_fault_status (Compared fault) = fault_status fault
pair_fault_status (Trusted fault) = fault_status fault

-- The answer of a comparison with a trusted pair, by the paths of both pairs: what is written, or
-- the line and the status of the fault. At a fault the output is `at_fault`.
abbrev pub line_answer : (at_fault : LineOutput) → (named trusted : Named)
    → Result Report PairFault → LineAnswer
line_answer at_fault named trusted (Ok report) = record {
  output = all_lines report.text;
  errors = outcome_lines report.outcome;
  status = status_of report.outcome.added report.outcome.removed report.outcome.changed;
}
line_answer at_fault named trusted (Err fault) = record {
  output = at_fault;
  errors = pair_fault_line named.old_path named.new_path trusted.old_path trusted.new_path fault;
  status = pair_fault_status fault;
}

-- The comparison of what is at the paths that the settings and the arguments name. At each path
-- there is a database or no file. The answer is that of `RunsLines`: the lines over four maps, or
-- the first fault, in the order old, new, trusted old, trusted new.
pub record ComparesForLines (files trusted_files : Files) (job : LineJobText) (list : ListRead)
    (s : Configured) (named : Named) (a : LineAnswer) : Type 0 where
  pub old_is : s.old_path ≡ Some named.old_path
  pub new_is : s.new_path ≡ Some named.new_path
  pub old_file : Option (List ℕ)
  pub new_file : Option (List ℕ)
  pub trusted_old_file : Option (List ℕ)
  pub trusted_new_file : Option (List ℕ)
  pub old_told : files named.old_path ≡ Some old_file
  pub new_told : files named.new_path ≡ Some new_file
  pub trusted_old_told : trusted_files job.trusted_old ≡ Some trusted_old_file
  pub trusted_new_told : trusted_files job.trusted_new ≡ Some trusted_new_file
  pub run : Result Report PairFault
  pub runs : RunsLines limits list (asked_by s.options named)
      (asked_by s.options (trusted_of job)) old_file new_file trusted_old_file trusted_new_file run
  pub then_is : a ≡ line_answer (lines_at_fault list (asked_by s.options named)
      (asked_by s.options (trusted_of job)) old_file new_file trusted_old_file trusted_new_file)
      named (trusted_of job) run

-- the answer, by the settings of the job or by why it has none
abbrev pub IsSettingsLineAnswer : (files trusted_files : Files) → LineJobText → ListRead
    → Result Configured NoSettings → Named → LineAnswer
    → Type 0
IsSettingsLineAnswer files trusted_files job list (Ok s) named a =
    ComparesForLines files trusted_files job list s named a
IsSettingsLineAnswer files trusted_files job list (Err why) named a =
    a ≡ refused_lines (no_settings_line job.config why) (no_settings_status why)

-- the answer if this was read of the list: it is known what is at the configuration's path
pub record IsListedLineAnswer (files trusted_files : Files) (job : LineJobText) (list : ListRead)
    (named : Named) (a : LineAnswer) : Type 0 where
  pub settings : Result Configured NoSettings
  pub are : AreSettings files (comparison_of job) settings
  pub then_is : IsSettingsLineAnswer files trusted_files job list settings named a

-- the answer, by whether the list has rules or a fault
abbrev pub IsGivenLineAnswer : (files trusted_files : Files) → LineJobText
    → Result (List RuleText) ListFault → Named → LineAnswer
    → Type 0
IsGivenLineAnswer files trusted_files job (Ok rules) named a =
    IsListedLineAnswer files trusted_files job (list_of job.without rules) named a
IsGivenLineAnswer files trusted_files job (Err fault) named a =
    a ≡ refused_lines (list_line fault) 17

-- The answer to a job with a trusted pair, over the files of both sites. It is the first fault of
-- the list, of the configuration or of a database, or else the lines. A named file that is not there
-- counts as a fault. `named` has the paths that the arguments and the configuration name.
pub record IsLineAnswer (files trusted_files : Files) (job : LineJobText) (named : Named)
    (a : LineAnswer) : Type 0 where
  pub config_is : named.config ≡ job.config
  pub reading : Result (List RuleText) ListFault
  pub list_reads : IsReading job.without reading
  pub then_is : IsGivenLineAnswer files trusted_files job reading named a

-- It is known what is at the configuration's path, at the paths of the databases that it names, and
-- at those of the trusted pair.
pub record TellsForLines (files trusted_files : Files) (job : LineJobText) : Type 0 where
  pub config : (file : Option (List ℕ)) × (files job.config ≡ Some file)
  pub databases : (text : List ℕ) → files job.config ≡ Some (Some text) → (s : Configured)
      → ReadsAs Compare job.before text job.after (Ok s) → (path : List ℕ)
      → (s.old_path ≡ Some path) ⊎ (s.new_path ≡ Some path)
      → (file : Option (List ℕ)) × (files path ≡ Some file)
  pub trusted : (side : Side) → (file : Option (List ℕ))
      × (trusted_files (by_side job.trusted_old job.trusted_new side) ≡ Some file)

-- the job has an answer over these files
abbrev pub HasLineAnswer : (files trusted_files : Files) → LineJobText → Type 0
HasLineAnswer files trusted_files job =
    (named : Named) × (a : LineAnswer) × IsLineAnswer files trusted_files job named a
