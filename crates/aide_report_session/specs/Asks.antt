-- What arguments ask for, if the answer is that of a comparison.
use Rattle.std.specs.Prelude.{ℕ, ◌≡◌, Some, List, Ok, true, false}
use Rattle.aide_conf.specs.Settings.{Configured}
use Rattle.aide_conf.specs.ReadResult.{ReadsAs}
use Rattle.aide_site.specs.Answer.{Named}
use Rattle.aide_site.specs.Files.{Files, is_too_large}
use Rattle.aide_site.specs.JobSettings.{need_of}
use Rattle.aide_words.specs.Job.{JobText, job_of}

-- The arguments ask for a comparison. The configuration is at the path that they name, and is
-- accepted with these settings. At each of the two paths that it names there is a text.
pub record Asks (files : Files) (words : List (List ℕ)) (named : Named) (settings : Configured)
    (old new : List ℕ) : Type 0 where
  pub job : JobText
  pub job_is : job_of words ≡ Some job
  pub compares : job.compare ≡ true
  pub config_is : named.config ≡ job.config
  pub config : List ℕ
  pub config_there : files job.config ≡ Some (Some config)
  pub small : is_too_large config ≡ false
  pub accepted : ReadsAs (need_of true) job.before config job.after (Ok settings)
  pub old_path : settings.old_path ≡ Some named.old_path
  pub new_path : settings.new_path ≡ Some named.new_path
  pub old_there : files named.old_path ≡ Some (Some old)
  pub new_there : files named.new_path ≡ Some (Some new)
