use Rattle.std.proofs.Common.{◌∙◌, ◌+◌, ap, sym, subst, arith, drop, get_or, rules}
use Rattle.std.specs.List.{flat_map, filter}
use Rattle.aide_db.specs.declared.side.Side.TheVariants.{Old, New}
use Rattle.aide_merge.specs.code.Digests.{AreDigests}
use Rattle.aide_merge.specs.code.Merging.{pass_of}
use Rattle.aide_text.specs.PenSheet.{on_sheet}
use Rattle.aide_merge.specs.Seen.{seen}
use Rattle.aide_report_specs.specs.Report.{sections_text}
use Rattle.aide_report_specs.specs.Sections.{is_there, section_text}
use Rattle.aide_text.specs.Section.{all_sections}
use Rattle.aide_attr.specs.Level.{reaches}
use Rattle.aide_attr.specs.declared.level.Level.TheVariants.{DatabaseAttributes}
use Rattle.aide_report.proofs.AgreementLemmas.{none_there, first_nothing, first_some}
use Rattle.aide_report.proofs.GivenLemmas.{gave_none, gave_then}
use Rattle.aide_report.proofs.PassLemmas.{passes_none, passes_same, passes_stop, passes_then}
use Rattle.aide_report.proofs.PassLemmas.{pen_then}
use Rattle.aide_text.specs.declared.section.Section.TheVariants.{AddedEntries}
use Rattle.aide_report.proofs.SectionsLemmas.{rest_yes, rest_no, rest_end, passed, passed_yes}
use Rattle.aide_report.proofs.SectionsLemmas.{passed_no, passed_none}
use Rattle.aide_report.proofs.SectionsLemmas.{passed_all, passed_some}
use Rattle.aide_text.proofs.Sheets.{writing_start, writing_as, writing_more, writing_part, writing_done, some_nothing}
use Rattle.aide_text.proofs.Sheets.{some_more}
use Rattle.aide_report.proofs.sections.put_sections.Goals as goal

pub loop-section-init : goal.loop-section-init
loop-section-init g c =
    let h = is_there c.args.plan.now.task.now.options c.args.plan.now.finding.now.counts in
    let start = on_sheet g.W.Sink c.args.out.now c.args.pen.now in
    record {
      passes = passes_none c.args.plan.now.limits (passed h all_sections 0) (seen g.S.Sources c.args.sources.now) c.args.desk.now
          (passed_none h all_sections);
      writes_on = c.requires.writes_on;
      writes = λ old new told_old told_new. writing_start
          (flat_map (section_text c.args.plan.now.task.now.options (pass_of old new)) (filter h all_sections)) start;
      some = some_nothing start;
      first = first_nothing (reaches c.args.plan.now.task.now.options.level DatabaseAttributes) start;
      gave = gave_none (g.S.Sources.bytes_at c.args.sources.now) (g.S.Sources.openings c.args.sources.now)
          c.args.plan.now.finding.now.digests;
    }

pub returns-in-Err-clause-passes : goal.returns-in-Err-clause-passes
returns-in-Err-clause-passes g c =
    let h = is_there c.args.plan.now.task.now.options c.args.plan.now.finding.now.counts in
    let i = c.loop-section.section-index in
    let one = passed_yes h all_sections i AddedEntries (omega arith) (sym c.if-not-is_there.ensures) in
    let some = passed_some h all_sections (i + 1) in
    passes_stop (passed h all_sections i) 1 _ (omega (arith, one, some)) c.loop-section.invariant.passes c.in-Err.ensures.passes

pub returns-in-Err-clause-writes : goal.returns-in-Err-clause-writes
unfolding sections_text
returns-in-Err-clause-writes g c old new told_old told_new =
    let h = is_there c.args.plan.now.task.now.options c.args.plan.now.finding.now.counts in
    let i = c.loop-section.section-index in
    let same = c.loop-section.invariant.passes.sources.same in
    let f = section_text c.args.plan.now.task.now.options (pass_of old new) in
    writing_part (flat_map f (filter h (drop (i + 1) all_sections)))
    (rest_yes h f all_sections i AddedEntries (omega arith) (sym c.if-not-is_there.ensures))
    (c.loop-section.invariant.writes old new told_old told_new)
    (c.in-Err.ensures.writes old new (ap (λ bytes. bytes Old) same ∙ told_old) (ap (λ bytes. bytes New) same ∙ told_new))

pub returns-in-Err-clause-pen : goal.returns-in-Err-clause-pen
returns-in-Err-clause-pen g c = pen_then c.loop-section.invariant.some c.in-Err.ensures.pen

pub returns-clause-passes : goal.returns-clause-passes
returns-clause-passes g c = search (rules, passes_same, passed, passed_all)

pub returns-clause-writes : goal.returns-clause-writes
unfolding sections_text
returns-clause-writes g c old new told_old told_new = search (rules, writing_done, rest_end)

pub returns-clause-pen : goal.returns-clause-pen
returns-clause-pen g c = record { some = c.loop-section.invariant.some; writes_on = c.loop-section.invariant.writes_on; written = tt }

pub loop-section-preserved : goal.loop-section-preserved
loop-section-preserved g c =
    let h = is_there c.args.plan.now.task.now.options c.args.plan.now.finding.now.counts in
    let i = c.loop-section.section-index in
    let same = c.loop-section.invariant.passes.sources.same in
    let is = sym c.if-not-is_there.ensures in
    let some = some_more c.loop-section.invariant.some c.in-Ok.ensures.pen.some in
    record {
      passes = passes_then (passed h all_sections i) 1 _
          (passed_yes h all_sections i AddedEntries (omega arith) is) c.loop-section.invariant.passes c.in-Ok.ensures.passes;
      writes_on = c.in-Ok.ensures.pen.writes_on;
      writes = λ old new told_old told_new. writing_more
          (rest_yes h (section_text c.args.plan.now.task.now.options (pass_of old new)) all_sections i AddedEntries (omega arith) is)
          (c.loop-section.invariant.writes old new told_old told_new)
          (c.in-Ok.ensures.writes old new (ap (λ bytes. bytes Old) same ∙ told_old) (ap (λ bytes. bytes New) same ∙ told_new));
      some = some;
      first = first_some (reaches c.args.plan.now.task.now.options.level DatabaseAttributes)
          (λ below. let there = sym is ∙ none_there c.args.plan.now.task.now.options c.args.plan.now.finding.now.counts
          (get_or all_sections i AddedEntries) below in cc)
          some;
      gave = gave_then c.loop-section.invariant.passes.sources.at_same c.loop-section.invariant.gave c.in-Ok.ensures.gave;
    }

pub loop-section-preserved-then-not-is_there : goal.loop-section-preserved-then-not-is_there
loop-section-preserved-then-not-is_there g c =
    let h = is_there c.args.plan.now.task.now.options c.args.plan.now.finding.now.counts in
    let i = c.loop-section.section-index in
    let before = c.loop-section.invariant in
    let is = sym c.if-not-is_there.ensures in
    record {
      passes = passes_same (passed h all_sections i) _ (passed_no h all_sections i AddedEntries (omega arith) is) before.passes;
      writes_on = before.writes_on;
      writes = λ old new told_old told_new. writing_as
          (rest_no h (section_text c.args.plan.now.task.now.options (pass_of old new)) all_sections i AddedEntries (omega arith) is)
          (before.writes old new told_old told_new);
      some = before.some;
      first = before.first;
      gave = before.gave;
    }

pub section_pass-requires-clause-digests : goal.section_pass-requires-clause-digests
section_pass-requires-clause-digests g c =
    subst (λ bytes. AreDigests bytes c.args.plan.now.finding.now.digests)
    (sym c.loop-section.invariant.passes.sources.same) c.requires.digests
