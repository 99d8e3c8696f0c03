use Rattle.std.proofs.Common.{arith, take, append-nil, rules}
use Rattle.std.proofs.lemmas.List.{drop_all}
use Rattle.aide_fields.proofs.FieldLemmas.{no_field}
use Rattle.aide_fields.proofs.SpanLemmas.{last_field, too_many}
use Rattle.aide_fields.proofs.runs.line_ends.Goals as goal

pub returns-then-found-line-clause-all : goal.returns-then-found-line-clause-all
returns-then-found-line-clause-all c = search (rules, append-nil, drop_all, no_field)

pub returns-in-Some-clause-all : goal.returns-in-Some-clause-all
returns-in-Some-clause-all c = search (rules, last_field)

pub returns-in-None-clause-many : goal.returns-in-None-clause-many
returns-in-None-clause-many c =
    let found = c.requires.found in
    let spans = take c.args.found.count c.args.spanned.now in
    let more = last_field c.args.line.now spans c.args.found.begin
    (omega (arith, found.order, c.if-found-line.false)) found.plain found.whole in
    too_many c.args.line.now _ spans _ _ found.whole more.1 c.in-None.ensures.full
