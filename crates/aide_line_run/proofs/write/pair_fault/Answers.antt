use Rattle.std.proofs.Common.{rules}
use Rattle.aide_line_run.proofs.write.pair_fault.Goals as goal

pub returns-in-Write : goal.returns-in-Write
returns-in-Write c = search rules

pub returns-in-Compared : goal.returns-in-Compared
returns-in-Compared c = search rules
