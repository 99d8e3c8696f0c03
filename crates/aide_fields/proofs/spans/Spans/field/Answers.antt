use Rattle.std.proofs.Common.{arith}
use Rattle.aide_fields.proofs.SpanLemmas.{span_at}
use Rattle.aide_fields.proofs.spans.Spans.field.Goals as goal

pub returns-clause-some : goal.returns-clause-some
returns-clause-some c = λ s. rw c.of.ensures
    (span_at c.args.line.now c.args.self.now.spans c.args.self.now.count c.args.index _ (omega arith) c.if-index-self.false s)
