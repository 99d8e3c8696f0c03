use Rattle.std.proofs.Common.{arith, take, rules}
use Rattle.aide_fields.proofs.SpanLemmas.{blank_passed, run_field, too_many}
use Rattle.aide_fields.proofs.runs.run_ends.Goals as goal

pub returns-then-found-at-clause-found : goal.returns-then-found-at-clause-found
returns-then-found-at-clause-found c = search (rules, blank_passed)

pub returns-in-Some-clause-found : goal.returns-in-Some-clause-found
returns-in-Some-clause-found c = search (rules, run_field)

pub returns-in-None-clause-many : goal.returns-in-None-clause-many
returns-in-None-clause-many c =
    let found = c.requires.found in
    let spans = take c.args.found.count c.args.spanned.now in
    let more = run_field c.args.line.now spans c.args.found.begin c.args.at
    (omega (arith, found.order, c.if-found-at.false)) c.requires.short found.plain c.requires.blank found.whole in
    too_many c.args.line.now _ spans _ _ found.whole more.1 c.in-None.ensures.full
