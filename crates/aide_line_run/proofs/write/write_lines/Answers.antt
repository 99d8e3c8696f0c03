use Rattle.std.proofs.Common.{◌∙◌, ap, inl, inr, refl, rules}
use Rattle.aide_text.specs.Failures.{Rose, one_more}
use Rattle.aide_text.proofs.Sheets.{part_whole, some_more, some_of, wrote_more, wrote_part}
use Rattle.aide_merge.proofs.PenLemmas.{unflushed}
use Rattle.aide_merge.proofs.PenLemmas.{count_of_pen, counts_of_pen, flushed_count, flushed_part}
use Rattle.aide_merge.proofs.PenLemmas.{flushed_whole, never_falls}
use Rattle.aide_merge.proofs.PenLemmas.{rose_by_one, rose_of_pen, unfailed}
use Rattle.aide_merge.specs.declared.run_fault.RunFault.TheVariants.{Write}
use Rattle.aide_line_run.proofs.SettleLemmas.{first_of_stop, has_told, pair_counts, pair_written, stop_written}
use Rattle.aide_line_run.proofs.write.write_lines.Goals as goal

pub put_changes-requires : goal.put_changes-requires
put_changes-requires g c = search rules

-- ---- a stop before the last line

pub returns-in-Err-clause-cut : goal.returns-in-Err-clause-cut
returns-in-Err-clause-cut g c =
    let walked = c.in-Err.ensures.walked in
    inl (record {
      done = walked.done;
      are = record { changes = walked.are.changes; lines = walked.are.lines };
      part = wrote_part (ap (λ pen. pen.failed) c.new-pen.ensures) (part_whole walked.wrote);
    })

pub returns-in-Err-clause-fault : goal.returns-in-Err-clause-fault
returns-in-Err-clause-fault g c =
    rw c.pair_fault.ensures (first_of_stop g.R.Reel c.args.merges.now c.put_changes.new.merges c.args.desk.now c.args.trusted_desk.now
    c.put_changes.new.pen (Rose (g.W.Sink.failures c.args.out.now) (g.W.Sink.failures c.put_changes.new.out)) c.put_changes.new.pen.sent
    c.in-Err.stop (rose_of_pen (ap (λ pen. pen.failed) c.new-pen.ensures) (some_of c.in-Err.ensures.walked.wrote)) c.in-Err.ensures.fault)

pub returns-in-Err-clause-sink : goal.returns-in-Err-clause-sink
returns-in-Err-clause-sink g c =
    let fresh = ap (λ pen. pen.failed) c.new-pen.ensures in
    let start = ap (λ pen. pen.sent) c.new-pen.ensures in
    let some = some_of c.in-Err.ensures.walked.wrote in
    let pen = c.put_changes.new.pen in
    let written = stop_written g.R.Reel c.args.merges.now c.put_changes.new.merges c.args.desk.now c.args.trusted_desk.now pen
    c.in-Err.stop c.in-Err.ensures.fault in
    rw c.pair_fault.ensures (record {
      flushed = tt;
      flushes = unflushed some;
      written = pair_written pen (g.W.Sink.delivered c.args.out.now) (g.W.Sink.delivered c.put_changes.new.out) _
          (count_of_pen fresh start some) written;
      fails = pair_counts pen _ refl fresh some written;
    })

-- ---- a failed write of the last line

pub returns-then-pen-clause-cut : goal.returns-then-pen-clause-cut
returns-then-pen-clause-cut g c =
    let walked = c.in-Ok.ensures.walked in
    inr (record {
      written = tt;
      found = c.in-Ok.found;
      told = has_told walked c.in-Ok.ensures.read
          (wrote_part (ap (λ pen. pen.failed) c.new-pen.ensures) (part_whole (wrote_more walked.wrote c.put_last.ensures)));
    })

pub returns-then-pen-clause-fault : goal.returns-then-pen-clause-fault
returns-then-pen-clause-fault g c =
    rose_of_pen (ap (λ pen. pen.failed) c.new-pen.ensures)
    (some_more (some_of c.in-Ok.ensures.walked.wrote) (some_of c.put_last.ensures)) c.if-pen.true

pub returns-then-pen-clause-sink : goal.returns-then-pen-clause-sink
returns-then-pen-clause-sink g c =
    let fresh = ap (λ pen. pen.failed) c.new-pen.ensures in
    let start = ap (λ pen. pen.sent) c.new-pen.ensures in
    let some = some_more (some_of c.in-Ok.ensures.walked.wrote) (some_of c.put_last.ensures) in
    record {
      flushed = tt;
      flushes = unflushed some;
      written = count_of_pen fresh start some;
      fails = counts_of_pen c.put_last.new.pen (Write c.put_last.new.pen.sent) refl fresh some (c.if-pen.true, refl);
    }

-- ---- a failed flush

pub returns-in-Err-flush-clause-cut : goal.returns-in-Err-flush-clause-cut
returns-in-Err-flush-clause-cut g c =
    let walked = c.in-Ok.ensures.walked in
    inr (record {
      written = tt;
      found = c.in-Ok.found;
      told = has_told walked c.in-Ok.ensures.read
          (flushed_part (g.W.Sink.delivered c.flush.new.self) (ap (λ pen. pen.failed) c.new-pen.ensures) c.if-pen.false
          (wrote_more walked.wrote c.put_last.ensures) c.flush.ensures.bytes);
    })

pub returns-in-Err-flush-clause-fault : goal.returns-in-Err-flush-clause-fault
returns-in-Err-flush-clause-fault g c =
    let some = some_more (some_of c.in-Ok.ensures.walked.wrote) (some_of c.put_last.ensures) in
    rose_by_one _ _ _ (never_falls (ap (λ pen. pen.failed) c.new-pen.ensures) some) c.in-Err-flush.ensures.fault

pub returns-in-Err-flush-clause-sink : goal.returns-in-Err-flush-clause-sink
returns-in-Err-flush-clause-sink g c =
    let fresh = ap (λ pen. pen.failed) c.new-pen.ensures in
    let start = ap (λ pen. pen.sent) c.new-pen.ensures in
    let some = some_more (some_of c.in-Ok.ensures.walked.wrote) (some_of c.put_last.ensures) in
    record {
      flushed = tt;
      flushes = c.in-Err-flush.ensures.flushes ∙ unflushed some;
      written = flushed_count (g.W.Sink.delivered c.flush.new.self) fresh start some c.flush.ensures.bytes;
      fails = c.in-Err-flush.ensures.fault ∙ ap one_more (unfailed fresh c.if-pen.false some);
    }

-- ---- all was written

pub returns-clause-told : goal.returns-clause-told
returns-clause-told g c =
    let walked = c.in-Ok.ensures.walked in
    has_told walked c.in-Ok.ensures.read
    (flushed_whole (g.W.Sink.delivered c.flush.new.self) (ap (λ pen. pen.failed) c.new-pen.ensures) c.if-pen.false
    (wrote_more walked.wrote c.put_last.ensures) c.flush.ensures.bytes)

pub returns-clause-sink : goal.returns-clause-sink
returns-clause-sink g c =
    let fresh = ap (λ pen. pen.failed) c.new-pen.ensures in
    let some = some_more (some_of c.in-Ok.ensures.walked.wrote) (some_of c.put_last.ensures) in
    record {
      flushed = c.in_default.ensures.flushed;
      flushes = c.in_default.ensures.flushes ∙ ap one_more (unflushed some);
      written = tt;
      fails = c.in_default.ensures.fault ∙ unfailed fresh c.if-pen.false some;
    }
