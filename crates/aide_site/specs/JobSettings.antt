-- The settings of a job, or why it has none.
use Rattle.std.specs.Prelude.{◌≡◌, ℕ, Bool, true, false, List, Option, Some, None, Ok, Err}
use Rattle.std.specs.Prelude.{Result, ⊤}
use Rattle.aide_conf.specs.ReadResult.{ReadsAs}
use Rattle.aide_conf.specs.Settings.{Configured}
use Rattle.aide_conf.specs.declared.fault.ConfFault.{ConfFault}
use Rattle.aide_conf.specs.declared.task.Need.{Need}
use Rattle.aide_conf.specs.declared.task.Need.TheVariants.{Compare, Check}
use Rattle.aide_site.specs.Files.{Files, IsLarge, is_too_large}
use Rattle.aide_site.specs.Lines.{conf_line, memory_line, too_large_line, unread_line}
use Rattle.aide_site.specs.declared.job_config.JobConfig.{JobConfig}
use Rattle.aide_site.specs.declared.job_config.NoSettings.{NoSettings}
use Rattle.aide_site.specs.declared.job_config.NoSettings.TheVariants.{Memory, Unread}
use Rattle.aide_site.specs.declared.job_config.NoSettings.TheVariants.{TooLarge, Refused}
use Rattle.aide_words.specs.Job.{JobText}
use Rattle.aide_words.specs.LineJob.{LineJobText}

-- what is said of a configuration, as a job
abbrev pub job_text_of : JobConfig → JobText
job_text_of job = record {
  compare = job.compare;
  config = job.path.now;
  before = job.before.now;
  after = job.after.now;
}

-- a comparison by lines has the configuration of this job
abbrev pub comparison_of : LineJobText → JobText
comparison_of job = record {
  compare = true;
  config = job.config;
  before = job.before;
  after = job.after;
}

-- what a configuration is read for: a comparison, or only a check
abbrev pub need_of : Bool → Need
need_of true = Compare
need_of false = Check

-- the texts of a job whose configuration has this text read as this
abbrev pub ReadsJobAs : JobText → List ℕ → Result Configured ConfFault → Type 0
ReadsJobAs job text read = ReadsAs (need_of job.compare) job.before text job.after read

-- the settings of what a configuration reads as, or its fault as the reason why there are none
abbrev pub settings_by : Result Configured ConfFault → Result Configured NoSettings
settings_by (Ok s) = Ok s
settings_by (Err fault) = Err (Refused fault)

-- the settings of a job whose configuration has this text, by whether it is too large
abbrev pub AreOfText : JobText → List ℕ → Bool → Result Configured NoSettings → Type 0
AreOfText job text true settings = settings ≡ Err TooLarge
AreOfText job text false settings =
    (read : Result Configured ConfFault) × ReadsJobAs job text read × (settings ≡ settings_by read)

-- the settings of a job, by what is at the path of its configuration
abbrev pub AreOfFile : JobText → Option (List ℕ) → Result Configured NoSettings → Type 0
AreOfFile job None settings = settings ≡ Err Unread
AreOfFile job (Some text) settings = AreOfText job text (is_too_large text) settings

-- The settings of a job over files, or why it has none. It is known what is at the path of its configuration.
pub record AreSettings (files : Files) (job : JobText) (settings : Result Configured NoSettings)
    : Type 0 where
  pub file : Option (List ℕ)
  pub known : files job.config ≡ Some file
  pub are : AreOfFile job file settings

-- The configuration of a job was read, and reads as this. If the file is known, the text is the file's.
pub record HasRead (files : Files) (job : JobText) (read : Result Configured ConfFault)
    : Type 0 where
  pub text : List ℕ
  pub text_is : (file : Option (List ℕ)) → files job.config ≡ Some file → file ≡ Some text
  pub small : is_too_large text ≡ false
  pub reads : ReadsJobAs job text read

-- why a job has no settings whose configuration has this text
abbrev pub IsNotOfText : JobText → List ℕ → NoSettings → Type 0
IsNotOfText job text Memory = ⊤
IsNotOfText job text (Refused fault) = ReadsJobAs job text (Err fault)
IsNotOfText job text why = ⊥

-- Why a job has no settings. `site` means that the site has counted a failure. A reliable site fails to give a
-- configuration only if it is not there.
abbrev pub NoSettingsCause : Files → (is_reliable : Bool) → JobText → (site : Type 0) → NoSettings
    → Type 0
NoSettingsCause files is_reliable job site Memory = ⊤
NoSettingsCause files is_reliable job site Unread =
    site × (is_reliable ≡ true → files job.config ≡ Some None)
NoSettingsCause files is_reliable job site TooLarge =
    (file : Option (List ℕ)) → files job.config ≡ Some file → IsLarge file
NoSettingsCause files is_reliable job site (Refused fault) = HasRead files job (Err fault)

-- the line on standard error, by the path of the configuration
abbrev pub no_settings_line : List ℕ → NoSettings → List ℕ
no_settings_line path Memory = memory_line
no_settings_line path Unread = unread_line path
no_settings_line path TooLarge = too_large_line
no_settings_line path (Refused fault) = conf_line fault

-- the exit status
abbrev pub no_settings_status : NoSettings → ℕ
no_settings_status Memory = 22
no_settings_status Unread = 18
no_settings_status TooLarge = 17
no_settings_status (Refused fault) = 17
