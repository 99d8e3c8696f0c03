use Rattle.aide_site.specs.JobSettings.{job_text_of}
use Rattle.aide_site.proofs.JobSettings.{has_fault, has_settings}
use Rattle.aide_site.proofs.job_config.job_settings.Goals as goal

pub returns-in-Ok-clause-ok : goal.returns-in-Ok-clause-ok
returns-in-Ok-clause-ok g c =
    has_settings _ (job_text_of c.args.job.now) _ _ c.as_slice.ensures.value c.in-Ok.ensures.ok c.in-Ok.ensures.small _
    c.read_settings.ensures.ok

pub returns-in-Ok-clause-err : goal.returns-in-Ok-clause-err
returns-in-Ok-clause-err g c =
    has_fault (g.S.Sources.file_at c.args.site.now) (job_text_of c.args.job.now) _ _ c.as_slice.ensures.value c.in-Ok.ensures.ok
    c.in-Ok.ensures.small _ _ _ c.read_settings.ensures.err
