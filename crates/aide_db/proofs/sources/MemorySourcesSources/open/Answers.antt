use Rattle.std.proofs.Common.{ap, sym}
use Rattle.std.specs.Prelude.{Some}
use Rattle.aide_db.specs.MemorySources.{gives}
use Rattle.aide_db.proofs.sources.MemorySourcesSources.open.Goals as goal

pub returns-in-Old-clause-gives : goal.returns-in-Old-clause-gives
returns-in-Old-clause-gives c = ap (λ side. Some (gives c.args.self.now side)) (sym c.in-Old.is)
