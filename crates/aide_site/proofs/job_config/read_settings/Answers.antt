use Rattle.std.proofs.Common.{rules}
use Rattle.aide_site.proofs.JobSettings.{reads_same, refused_as}
use Rattle.aide_site.proofs.job_config.read_settings.Goals as goal

pub returns-in-Ok-clause-ok : goal.returns-in-Ok-clause-ok
returns-in-Ok-clause-ok c = search (rules, reads_same)

pub returns-in_default-clause-err : goal.returns-in_default-clause-err
returns-in_default-clause-err c = search (rules, reads_same, refused_as)
