use Rattle.std.proofs.Common.{rules}
use Rattle.aide_report.proofs.flush.flush_written.Goals as goal

pub returns-in-Err-flush : goal.returns-in-Err-flush
returns-in-Err-flush c = search rules
