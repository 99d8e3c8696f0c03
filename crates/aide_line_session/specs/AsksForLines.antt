-- What arguments ask for, if the answer is that of a comparison that writes lines of JSON.
use Rattle.std.specs.Prelude.{ℕ, ◌≡◌, Some, List, Ok, false}
use Rattle.aide_conf.specs.Settings.{Configured}
use Rattle.aide_conf.specs.ReadResult.{ReadsAs}
use Rattle.aide_conf.specs.declared.task.Need.TheVariants.{Compare}
use Rattle.aide_site.specs.Answer.{Named}
use Rattle.aide_site.specs.Files.{Files, is_too_large}
use Rattle.aide_line_session.specs.GivenList.{IsListOf}
use Rattle.aide_line_run.specs.Listed.{ListRead}
use Rattle.aide_words.specs.LineJob.{LineJobText, line_job_of}

-- The arguments ask for this job, and their list was read with these rules and this digest. The configuration is at the
-- path that they name, and is accepted with these settings. Each of the two paths that the configuration names, and
-- each of the two paths of the trusted pair, leads to a text. `trusted_files` is `trusted_at` of what the second site
-- shows: at an empty path it has the empty database.
pub record AsksForLines (files trusted_files : Files) (words : List (List ℕ)) (job : LineJobText)
    (list : ListRead) (named : Named) (settings : Configured)
    (old new trusted_old trusted_new : List ℕ) : Type 0 where
  pub job_is : line_job_of words ≡ Some job
  pub listed : IsListOf job.without list
  pub config_is : named.config ≡ job.config
  pub config : List ℕ
  pub config_there : files job.config ≡ Some (Some config)
  pub small : is_too_large config ≡ false
  pub accepted : ReadsAs Compare job.before config job.after (Ok settings)
  pub old_path : settings.old_path ≡ Some named.old_path
  pub new_path : settings.new_path ≡ Some named.new_path
  pub old_there : files named.old_path ≡ Some (Some old)
  pub new_there : files named.new_path ≡ Some (Some new)
  pub trusted_old_there : trusted_files job.trusted_old ≡ Some (Some trusted_old)
  pub trusted_new_there : trusted_files job.trusted_new ≡ Some (Some trusted_new)
