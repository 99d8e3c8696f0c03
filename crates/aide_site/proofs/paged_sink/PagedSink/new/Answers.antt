use Rattle.std.proofs.Common.{rules}
use Rattle.aide_site.proofs.paged_sink.PagedSink.new.Goals as goal

pub invariant_of-result : goal.invariant_of-result
invariant_of-result c = search rules
