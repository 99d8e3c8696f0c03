use Rattle.std.proofs.Common.{arith}
use Rattle.aide_site.proofs.file_site.FileSiteSite.config.Goals as goal

pub returns-in-None-clause-fault : goal.returns-in-None-clause-fault
returns-in-None-clause-fault g c =
    rw (← c.self.view_is) (omega (arith, c.saturating_add-self-inside.ensures))
