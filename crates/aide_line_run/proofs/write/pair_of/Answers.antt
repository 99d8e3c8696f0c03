use Rattle.std.proofs.Common.{rules}
use Rattle.aide_line_run.proofs.write.pair_of.Goals as goal

pub returns-clause-new : goal.returns-clause-new
returns-clause-new c = search rules
