use Rattle.std.proofs.Common.{refl}
use Rattle.aide_site.proofs.Closings.{closes_told, closes_untold}
use Rattle.aide_site.proofs.PutLemmas.{put_none}
use Rattle.aide_site.proofs.config_check.check.Goals as goal

pub returns-in-Ok-clause-closes : goal.returns-in-Ok-clause-closes
returns-in-Ok-clause-closes g c = λ wanted config read.
    closes_told g.T.Telling.says _ _ wanted _ _ _ _ _ _ _ _ _ _ _ refl config c.args.settings.now read refl c.in-Ok.ensures.told
    (put_none _ _)

pub returns-in-Err-clause-closes : goal.returns-in-Err-clause-closes
returns-in-Err-clause-closes g c = λ wanted config read.
    closes_untold g.T.Telling.says _ _ wanted _ _ _ _ _ _ _ _ _ _ _ refl config c.args.settings.now read refl
    c.in-Err.ensures.untold c.in-Err.ensures.rose c.put_write_line.ensures
