use Rattle.std.proofs.Common.{arith}
use Rattle.aide_db.proofs.reel.ReadReelReel.read.Goals as goal

pub returns-in-Err-clause-fault : goal.returns-in-Err-clause-fault
returns-in-Err-clause-fault g c =
    rw (← c.self.view_is) (omega (arith, c.saturating_add-self-inside.ensures))
