use Rattle.std.proofs.Common.{rules}
use Rattle.aide_line_run.proofs.write.put_last.Goals as goal

pub returns : goal.returns
returns c = search rules
