use Rattle.std.proofs.Common.{rules}
use Rattle.aide_site.proofs.memory_site.MemorySiteSite.point_at_empty.Goals as goal

pub returns-clause-pointed : goal.returns-clause-pointed
returns-clause-pointed c = search rules
