use Rattle.std.proofs.Common.{le_refl, refl, rules}
use Rattle.aide_report.specs.code.Finding.{old_origin, new_origin}
use Rattle.aide_report_specs.specs.Report.{parts_of, databases_text}
use Rattle.aide_report.proofs.PassLemmas.{passes_broken, passes_none, passes_same, pen_then}
use Rattle.aide_report.proofs.AgreementLemmas.{first_then, no_databases}
use Rattle.aide_text.proofs.Sheets.{wrote_more, part_of_wrote, part_after, part_first, part_whole, some_more, some_of}
use Rattle.aide_report.proofs.report.put_parts.Goals as goal

pub returns-then-pen-clause-passes : goal.returns-then-pen-clause-passes
returns-then-pen-clause-passes g c = search (rules, passes_broken, passes_none)

pub returns-then-pen-2-clause-passes : goal.returns-then-pen-2-clause-passes
returns-then-pen-2-clause-passes g c =
    passes_broken _ _ c.put_databases.new.pen.sent (le_refl _) c.in-Ok.ensures.passes c.if-pen-2.true

pub returns-then-pen-clause-writes : goal.returns-then-pen-clause-writes
unfolding parts_of
returns-then-pen-clause-writes g c old new told_old told_new = search (rules, part_of_wrote)

pub returns-in-Err-clause-writes : goal.returns-in-Err-clause-writes
unfolding parts_of
returns-in-Err-clause-writes g c old new told_old told_new =
    part_after c.put_overview.ensures (part_first (databases_text c.args.plan.now.task.now.options
    (old_origin c.args.plan.now.task.now c.args.plan.now.finding.now) (new_origin c.args.plan.now.task.now c.args.plan.now.finding.now))
    (c.in-Err.ensures.writes old new told_old told_new))

pub returns-in-Err-clause-pen : goal.returns-in-Err-clause-pen
returns-in-Err-clause-pen g c = pen_then (some_of c.put_overview.ensures) c.in-Err.ensures.pen

pub returns-then-pen-2-clause-writes : goal.returns-then-pen-2-clause-writes
unfolding parts_of
returns-then-pen-2-clause-writes g c old new told_old told_new =
    part_whole (wrote_more c.put_overview.ensures (wrote_more (c.in-Ok.ensures.writes old new told_old told_new) c.put_databases.ensures))

pub returns-then-pen-2-clause-pen : goal.returns-then-pen-2-clause-pen
returns-then-pen-2-clause-pen g c = search (rules, some_more, some_of)

pub returns : goal.returns
unfolding parts_of
returns g c = record {
  passes = passes_same _ _ refl c.in-Ok.ensures.passes;
  writes = λ old new told_old told_new.
      wrote_more c.put_overview.ensures (wrote_more (c.in-Ok.ensures.writes old new told_old told_new) c.put_databases.ensures);
  first = search (rules, first_then, no_databases);
  pen = search (rules, some_more, some_of);
  gave = search rules;
}

pub returns-then-pen-clause-pen : goal.returns-then-pen-clause-pen
returns-then-pen-clause-pen g c = record { some = some_of c.put_overview.ensures; writes_on = tt; written = (c.if-pen.true, refl) }

pub returns-in-Err-clause-passes : goal.returns-in-Err-clause-passes
returns-in-Err-clause-passes g c = c.in-Err.ensures.passes

pub put_sections-requires-clause-writes_on : goal.put_sections-requires-clause-writes_on
put_sections-requires-clause-writes_on g c = c.if-pen.false
