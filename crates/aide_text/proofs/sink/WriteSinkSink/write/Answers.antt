use Rattle.std.proofs.Common.{arith}
use Rattle.aide_text.proofs.sink.WriteSinkSink.write.Goals as goal

pub returns-in-Ok-clause-some : goal.returns-in-Ok-clause-some
returns-in-Ok-clause-some g c = (omega arith, c.in-Ok.ensures.bound)
