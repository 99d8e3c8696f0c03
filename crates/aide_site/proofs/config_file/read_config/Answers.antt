use Rattle.std.proofs.Common.{◌∙◌, rules}
use Rattle.aide_site.proofs.Readings.{failures_after, given_file, large_file, lookups_after}
use Rattle.aide_site.proofs.config_file.read_config.Goals as goal

pub returns-in-Ok-result-clause-ok : goal.returns-in-Ok-result-clause-ok
returns-in-Ok-result-clause-ok g c = λ file is. given_file file (g.S.R.Reel.to_come c.in-Ok.reel) c.in-Ok-result.text.items
    (c.in-Ok.ensures.gives file is) c.in-Ok-result.ensures.ok

pub returns-in-Err-result-clause-large : goal.returns-in-Err-result-clause-large
returns-in-Err-result-clause-large g c = λ e file is. large_file file (g.S.R.Reel.to_come c.in-Ok.reel) (c.in-Ok.ensures.gives file is)
    (c.read_all-result.ensures.large (c.in-Err-result.is ∙ e))

pub returns-in-Ok-result-clause-opens : goal.returns-in-Ok-result-clause-opens
returns-in-Ok-result-clause-opens g c = search (rules, lookups_after, failures_after)

pub returns-in-Err-result-clause-opens : goal.returns-in-Err-result-clause-opens
returns-in-Err-result-clause-opens g c = search (rules, lookups_after, failures_after)
