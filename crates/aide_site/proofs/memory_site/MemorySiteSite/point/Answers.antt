use Rattle.std.proofs.Common.{ap}
use Rattle.std.proofs.lemmas.Result.{on_ok_weaker}
use Rattle.aide_site.specs.Sites.{aim_path}
use Rattle.aide_site.proofs.memory_site.MemorySiteSite.point.Goals as goal

pub returns-clause-path : goal.returns-clause-path
returns-clause-path c = on_ok_weaker c.point.result (ap aim_path) c.point.ensures.ok
