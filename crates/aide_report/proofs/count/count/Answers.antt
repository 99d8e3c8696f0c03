use Rattle.std.proofs.Common.{◌^◌, ◌<◌, ◌∙◌, arith, refl, subst}
use Rattle.aide_db.specs.declared.side.Side.TheVariants.{Old, New}
use Rattle.aide_merge.specs.code.ChangeView.{change_of}
use Rattle.aide_report.specs.code.Counts.{Completes}
use Rattle.aide_merge.specs.code.Merging.{remaining, total_work}
use Rattle.aide_report.proofs.CountLemmas.{counts_alike, counts_more, small_alike, small_more}
use Rattle.aide_merge.proofs.CallLemmas.{merge_fault, merge_then}
use Rattle.aide_report.proofs.count.count.Goals as goal

pub read_due-requires : goal.read_due-requires
read_due-requires g c = c.pass.invariant.ready

pub returns-in-Err-clause-keeps : goal.returns-in-Err-clause-keeps
returns-in-Err-clause-keeps g c =
    merge_then c.pass.invariant.keeps c.read_due.ensures.keeps

pub returns-in-Err-clause-fault : goal.returns-in-Err-clause-fault
returns-in-Err-clause-fault g c =
    merge_fault c.pass.invariant.keeps c.in-Err.ensures.fault

pub returns-in-End-clause-keeps : goal.returns-in-End-clause-keeps
returns-in-End-clause-keeps g c =
    merge_then c.pass.invariant.keeps (merge_then c.read_due.ensures.keeps c.next.ensures.keeps)

pub returns-in-End-clause-counts : goal.returns-in-End-clause-counts
returns-in-End-clause-counts g c old new s t =
    let stands = c.pass.invariant.keeps.stands in
    subst (λ rest. Completes c.args.options.now c.pass.counts rest (remaining c.args.merge.now c.args.desk.now old new))
    (c.in_default.ensures.read.same old new (stands Old old s) (stands New new t) ∙ c.in-End.ensures.step.end old new refl)
    (c.pass.invariant.counts old new s t)

pub pass-preserved-in-Differs : goal.pass-preserved-in-Differs
pass-preserved-in-Differs g c =
    let read = c.in_default.ensures.read in
    let step = c.in-Differs.ensures.step in
    let fewer : total_work c.next.new.self < total_work c.pass.merge = omega (arith, step.falls (λ e. cc), read.falls) in
    let stands = c.pass.invariant.keeps.stands in
    record {
      ready = step.ready;
      small = small_more c.args.options.now c.pass.counts c.add.new.counts (change_of c.in-Differs.change) (2 ^ 62)
          (total_work c.pass.merge) (total_work c.next.new.self)
          fewer c.add.ensures.added c.add.ensures.removed c.add.ensures.changed c.add.ensures.total c.add.ensures.shown
          c.pass.invariant.small;
      keeps = merge_then c.pass.invariant.keeps (merge_then c.read_due.ensures.keeps c.next.ensures.keeps);
      counts = λ old new s t. counts_more c.args.options.now c.pass.counts c.add.new.counts (change_of c.in-Differs.change) _ _ _ _
          (read.same old new (stands Old old s) (stands New new t) ∙ step.gives old new) step.shows
          c.add.ensures.added c.add.ensures.removed c.add.ensures.changed c.add.ensures.total c.add.ensures.shown
          (c.pass.invariant.counts old new s t);
    }

pub pass-preserved : goal.pass-preserved
pass-preserved g c =
    let read = c.in_default.ensures.read in
    let step = c.in-Alike.ensures.step in
    let fewer : total_work c.next.new.self < total_work c.pass.merge = omega (arith, step.falls (λ e. cc), read.falls) in
    let stands = c.pass.invariant.keeps.stands in
    record {
      ready = step.ready;
      small = small_alike c.pass.counts _ (2 ^ 62) (total_work c.pass.merge) (total_work c.next.new.self) fewer refl c.pass.invariant.small;
      keeps = merge_then c.pass.invariant.keeps (merge_then c.read_due.ensures.keeps c.next.ensures.keeps);
      counts = λ old new s t. counts_alike c.args.options.now c.pass.counts _ step.shows.entry _ _ _ _
          (read.same old new (stands Old old s) (stands New new t) ∙ step.gives old new) step.shows.only refl
          (c.pass.invariant.counts old new s t);
    }
