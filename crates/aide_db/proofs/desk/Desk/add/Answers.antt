use Rattle.std.proofs.Common.{arith}
use Rattle.aide_db.proofs.desk.Desk.add.Goals as goal

pub invariant_of-self-else-held-self : goal.invariant_of-self-else-held-self
invariant_of-self-else-held-self g c =
    let i = c.self.invariant in (
      omega arith,
      i.1,
      i.2,
      i.3,
      i.4,
      i.5,
      i.6,
      omega (arith, c.in-Ok.ensures.len, rw (← c.self.view_is) at c.requires.short),
      i.8,
      i.9,
      omega arith,
      i.11,
      i.12,
    )

pub returns-else-held-self-clause-grown : goal.returns-else-held-self-clause-grown
returns-else-held-self-clause-grown g c = rw (← c.self.view_is) (omega arith)
