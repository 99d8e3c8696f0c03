use Rattle.std.proofs.Common.{rules}
use Rattle.aide_site.proofs.paged_sink.PagedSinkSink.flush.Goals as goal

pub returns-clause-flushed : goal.returns-clause-flushed
returns-clause-flushed c = search rules

pub returns-clause-flushes : goal.returns-clause-flushes
returns-clause-flushes c = search rules
