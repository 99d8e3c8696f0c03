use Rattle.std.proofs.Common.{rules}
use Rattle.aide_merge.proofs.first_fault.settled.Goals as goal

pub returns-in-Err : goal.returns-in-Err
returns-in-Err c = search rules
