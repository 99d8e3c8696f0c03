use Rattle.std.proofs.Common.{rules}
use Rattle.std.proofs.Common.{ap, le_refl}
use Rattle.aide_text.proofs.memory_sink.MemorySinkSink.write.Goals as goal

pub returns-in-Err-clause-fault : goal.returns-in-Err-clause-fault
returns-in-Err-clause-fault g c = search (rules)

pub returns-in-Ok-clause-some : goal.returns-in-Ok-clause-some
returns-in-Ok-clause-some g c = (c.requires, le_refl _)

pub returns-in-Ok-clause-flushes : goal.returns-in-Ok-clause-flushes
returns-in-Ok-clause-flushes g c = ap (λ sink. sink.flushes) c.self.view_is

pub returns-in-Ok-clause-fault : goal.returns-in-Ok-clause-fault
returns-in-Ok-clause-fault g c = ap (λ sink. sink.failures) c.self.view_is

pub returns-in-Err-clause-some : goal.returns-in-Err-clause-some
returns-in-Err-clause-some g c = tt

pub returns-in-Err-clause-flushes : goal.returns-in-Err-clause-flushes
returns-in-Err-clause-flushes g c = ap (λ sink. sink.flushes) c.self.view_is
