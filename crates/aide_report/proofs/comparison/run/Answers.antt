use Rattle.std.proofs.Common.{◌∙◌, ◌+◌, ◌≤◌, ℕ, ap, refl, sym, arith}
use Rattle.aide_db.specs.declared.side.Side.TheVariants.{Old, New}
use Rattle.aide_merge.specs.Asked.{asked}
use Rattle.aide_report_specs.specs.Report.{section_count}
use Rattle.aide_merge.specs.Seen.{sink_seen}
use Rattle.aide_report.proofs.GivenLemmas.{gave_then, one_digest}
use Rattle.aide_report.proofs.RunRecords.{run_breaks, run_ends, run_stops}
use Rattle.aide_report.proofs.RunLemmas.{ends_well, ends_early, sections_are}
use Rattle.aide_report.proofs.SectionsLemmas.{fitting, most_sections, opens_more, sections_few}
use Rattle.aide_text.specs.Section.{row, row_of}
use Rattle.aide_report.proofs.comparison.run.Goals as goal

two_of_six : 2 ≤ 6
two_of_six = omega arith

two_and : (n : ℕ) → 2 ≤ 2 + n
two_and n = omega arith

pub write_report-requires-clause-digests : goal.write_report-requires-clause-digests
write_report-requires-clause-digests g c side text told =
    c.in-Ok.ensures.found.digests side text (ap (λ bytes. bytes side) (sym c.compare.ensures.sources.same) ∙ told)

pub returns-in-Err : goal.returns-in-Err
returns-in-Err g c =
    run_stops c.args.limits (asked c.args.task.now) 2 (sink_seen g.W.Sink c.args.out.now) two_of_six
    (λ old new. two_and _) c.compare.ensures.sources c.compare.ensures.opens_some c.in-Err.ensures.fault
    c.compare.ensures.desk

pub returns-in-Ok-write_report : goal.returns-in-Ok-write_report
unfolding most_sections fitting row_of row
returns-in-Ok-write_report g c =
    let found = c.in-Ok.ensures.found in
    let same = c.compare.ensures.sources.same in
    let count = section_count c.args.task.now.options c.in-Ok.finding.counts in
    run_ends c.args.limits (asked c.args.task.now) 2 count g.W.Sink c.args.out.now c.write_report.new.out
    (record {
      kept = c.compare.ensures.sources;
      opened = c.in-Ok.ensures.opens;
      cleared = c.compare.ensures.desk;
      sound = found.sound;
      there = found.there;
    })
    c.outcome.result c.in-Ok-write_report.ensures.passes c.in-Ok-write_report.ensures.sink
    (sections_few c.args.task.now.options c.in-Ok.finding.counts _ (omega arith))
    (λ old new told_old told_new.
    ap (λ n. 2 + n) (sym (sections_are c.args.task.now c.in-Ok.finding old new (found.of_texts old new told_old told_new))))
    (one_digest (gave_then c.compare.ensures.sources.at_same c.in-Ok.ensures.gave c.in-Ok-write_report.ensures.gave))
    (rw c.outcome.ensures c.in-Ok-write_report.ensures.first)
    (rw c.outcome.ensures (record {
      shown = c.in-Ok.finding.counts.shown;
      opens = opens_more _ _ _ 2 count _ refl c.in-Ok.ensures.opens c.in-Ok-write_report.ensures.passes.opens;
    }))
    (λ old new told_old told_new r runs. rw c.outcome.ensures (ends_well c.args.limits c.args.task.now c.in-Ok.finding old new
    (g.W.Sink.delivered c.args.out.now) (g.W.Sink.delivered c.write_report.new.out)
    (found.sound Old old told_old) (found.sound New new told_new) (found.of_texts old new told_old told_new)
    (record { of_old = found.digests Old old told_old; of_new = found.digests New new told_new })
    (c.in-Ok-write_report.ensures.sends old new (ap (λ bytes. bytes Old) same ∙ told_old) (ap (λ bytes. bytes New) same ∙ told_new))
    r runs))

pub returns-in-Err-write_report : goal.returns-in-Err-write_report
unfolding most_sections fitting row_of row
returns-in-Err-write_report g c =
    let found = c.in-Ok.ensures.found in
    let same = c.compare.ensures.sources.same in
    let count = section_count c.args.task.now.options c.in-Ok.finding.counts in
    run_breaks c.args.limits (asked c.args.task.now) 2 count g.W.Sink c.args.out.now c.write_report.new.out
    (record {
      kept = c.compare.ensures.sources;
      opened = c.in-Ok.ensures.opens;
      cleared = c.compare.ensures.desk;
      sound = found.sound;
      there = found.there;
    })
    c.in-Err-write_report.ensures.passes c.in-Err-write_report.ensures.sink
    (sections_few c.args.task.now.options c.in-Ok.finding.counts _ (omega arith))
    (λ old new told_old told_new.
    ap (λ n. 2 + n) (sym (sections_are c.args.task.now c.in-Ok.finding old new (found.of_texts old new told_old told_new))))
    refl
    (λ old new told_old told_new r runs. ends_early c.args.limits c.args.task.now c.in-Ok.finding old new
    (g.W.Sink.delivered c.args.out.now) (g.W.Sink.delivered c.write_report.new.out)
    (found.sound Old old told_old) (found.sound New new told_new) (found.of_texts old new told_old told_new)
    (record { of_old = found.digests Old old told_old; of_new = found.digests New new told_new })
    (c.in-Err-write_report.ensures.sends old new (ap (λ bytes. bytes Old) same ∙ told_old) (ap (λ bytes. bytes New) same ∙ told_new))
    r runs)
