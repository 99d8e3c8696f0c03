use Rattle.std.proofs.Common.{ap, rules}
use Rattle.aide_report.proofs.FlushLemmas.{flushed_after, flushed_begins, flushed_once}
use Rattle.aide_report.proofs.FlushLemmas.{flushed_passes, flushed_sends}
use Rattle.aide_report.proofs.report.write_report.Goals as goal

pub put_report-written-requires-clause-writes_on : goal.put_report-written-requires-clause-writes_on
put_report-written-requires-clause-writes_on g c = ap (λ pen. pen.failed) c.new-pen.ensures

pub returns : goal.returns
returns g c = record {
  passes = search (rules, flushed_passes);
  sends = λ old new told_old told_new. search (rules, flushed_sends);
  first = search (rules, flushed_begins);
  sink = search (rules, flushed_once);
  gave = search (rules, flushed_after);
}
