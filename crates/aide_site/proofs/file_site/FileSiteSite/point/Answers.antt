use Rattle.std.proofs.Common.{ap}
use Rattle.std.proofs.lemmas.Result.{on_ok_weaker}
use Rattle.aide_site.specs.Sites.{aim_path}
use Rattle.aide_site.proofs.file_site.FileSiteSite.point.Goals as goal

pub returns-clause-path : goal.returns-clause-path
returns-clause-path g c = on_ok_weaker c.point.result (ap aim_path) c.point.ensures.ok
