use Rattle.std.proofs.Common.{rules}
use Rattle.aide_text.proofs.memory_sink.MemorySinkSink.flush.Goals as goal

pub returns-clause-flushes : goal.returns-clause-flushes
returns-clause-flushes g c = search (rules)
