use Rattle.std.proofs.Common.{◌∙◌, arith, ap, sym, append-nil, ◌++◌, drop, refl}
use Rattle.aide_fields.specs.Spans.{fields_at, spans_in}
use Rattle.aide_fields.proofs.SpanLemmas.{none_left, span_more, too_many}
use Rattle.aide_fields.proofs.spans.Spans.find_behind.Goals as goal

pub returns-then-len-eq0-clause-all : goal.returns-then-len-eq0-clause-all
returns-then-len-eq0-clause-all c = λ t.
    let none = none_left c.fields.rest.now _ _ _ c.split_at-in-fields.ensures.back c.run_of-skip.ensures.bound c.run_of-skip.ensures.same
    c.run_of-skip.ensures.other c.if-len-eq0.true c.field_len-len.ensures.other in
    sym (append-nil (fields_at c.args.line.now (spans_in c.fields.self)))
    ∙ (ap (λ fs. fields_at c.args.line.now (spans_in c.fields.self) ++ fs) (sym none) ∙ c.fields.invariant.found)

pub returns-then-not-push-clause-many : goal.returns-then-not-push-clause-many
returns-then-not-push-clause-many c = λ t.
    let more = span_more c.args.line.now c.fields.rest.now c.split_at-in-fields.result.1.now
    (drop c.field_len-len.result c.split_at-in-fields.result.1.now)
    (spans_in c.fields.self) c.fields.at c.run_of-skip.result c.field_len-len.result c.fields.invariant.found
    c.fields.invariant.position c.split_at-in-fields.ensures.back refl
    c.run_of-skip.ensures.same c.run_of-skip.ensures.other c.field_len-len.ensures.bound c.field_len-len.ensures.same
    c.field_len-len.ensures.other c.if-len-eq0.false in
    too_many c.args.line.now c.fields.rest.now (spans_in c.fields.self) _ _ c.fields.invariant.found more.2
    (c.push.ensures.full c.if-not-push.true)

pub fields-preserved : goal.fields-preserved
fields-preserved c =
    let more = span_more c.args.line.now c.fields.rest.now c.split_at-in-fields.result.1.now c.split_at-in-fields-2.result.1.now
    (spans_in c.fields.self) c.fields.at c.run_of-skip.result c.field_len-len.result c.fields.invariant.found
    c.fields.invariant.position c.split_at-in-fields.ensures.back c.split_at-in-fields-2.ensures.back
    c.run_of-skip.ensures.same c.run_of-skip.ensures.other c.field_len-len.ensures.bound c.field_len-len.ensures.same
    c.field_len-len.ensures.other c.if-len-eq0.false in
    record {
      found = rw (c.push.ensures.pushed c.if-not-push.false) more.0;
      position = more.1;
      sum = omega (arith, c.fields.invariant.sum, c.split_at-in-fields.ensures.back_len, c.split_at-in-fields-2.ensures.back_len);
      small = omega arith;
    }
