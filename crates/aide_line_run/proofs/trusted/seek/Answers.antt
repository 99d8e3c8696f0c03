use Rattle.std.proofs.Common.{◌∙◌, ap, arith, rules, sym}
use Rattle.aide_db.specs.declared.side.Side.TheVariants.{Old, New}
use Rattle.aide_merge.specs.code.ChangeView.{change_of}
use Rattle.aide_line_run.specs.Sought.{seek}
use Rattle.aide_merge.specs.code.Merging.{remaining}
use Rattle.aide_merge.proofs.CallLemmas.{merge_fault, merge_none, merge_then}
use Rattle.aide_line_run.proofs.FrontLemmas.{comes_to, front_same, reads_on}
use Rattle.aide_line_run.proofs.SoughtLemmas.{seek_here, seek_none, seek_past}
use Rattle.aide_merge.proofs.UpcomingLemmas.{upcoming_none, upcoming_one}
use Rattle.aide_line_run.proofs.trusted.seek.Goals as goal

pub seek-init : goal.seek-init
seek-init g c = search (rules, merge_none)

pub read_due-requires : goal.read_due-requires
read_due-requires g c = c.seek.invariant.ready

pub returns-in-Err-clause-keeps : goal.returns-in-Err-clause-keeps
returns-in-Err-clause-keeps g c = merge_then c.seek.invariant.keeps c.read_due.ensures.keeps

pub returns-in-Err-clause-fault : goal.returns-in-Err-clause-fault
returns-in-Err-clause-fault g c = merge_fault c.seek.invariant.keeps c.in-Err.ensures.fault

pub returns-in-None-clause-keeps : goal.returns-in-None-clause-keeps
returns-in-None-clause-keeps g c = merge_then c.seek.invariant.keeps c.read_due.ensures.keeps

pub returns-in-None-clause-sought : goal.returns-in-None-clause-sought
returns-in-None-clause-sought g c =
    let read = c.in_default.ensures.read in
    comes_to c.seek.invariant.keeps c.seek.invariant.ready c.seek.invariant.within c.read_due.ensures.keeps read c.seek.invariant.same
    (λ old new. seek_none (change_of c.args.change).0 (remaining c.read_due.new.self c.read_due.new.desk old new)
    (upcoming_none c.read_due.new.self c.read_due.new.desk read.ready read.not_due c.in-None.ensures old new))

pub returns-then-not-is_before-clause-keeps : goal.returns-then-not-is_before-clause-keeps
returns-then-not-is_before-clause-keeps g c = merge_then c.seek.invariant.keeps c.read_due.ensures.keeps

pub returns-then-not-is_before-clause-sought : goal.returns-then-not-is_before-clause-sought
returns-then-not-is_before-clause-sought g c =
    let read = c.in_default.ensures.read in
    comes_to c.seek.invariant.keeps c.seek.invariant.ready c.seek.invariant.within c.read_due.ensures.keeps read c.seek.invariant.same
    (λ old new.
    let one = upcoming_one c.read_due.new.self c.read_due.new.desk read.ready read.not_due (change_of c.in-Some.trusted)
    c.in-Some.ensures old new in
    seek_here (change_of c.args.change).0 (change_of c.in-Some.trusted) one.0 (remaining c.read_due.new.self c.read_due.new.desk old new)
    one.1 (sym c.if-not-is_before.ensures))

pub seek-preserved : goal.seek-preserved
seek-preserved g c =
    let read = c.in_default.ensures.read in
    let passed = c.pass_on.ensures.passed in
    let on = reads_on c.seek.invariant.keeps in
    let path = (change_of c.args.change).0 in
    record {
      ready = passed.ready;
      within = passed.within (read.within c.seek.invariant.within);
      keeps = merge_then c.seek.invariant.keeps (merge_then c.read_due.ensures.keeps c.pass_on.ensures.keeps);
      same = λ old new s t. c.seek.invariant.same old new s t
          ∙ ap (seek path) (front_same c.seek.invariant.ready c.seek.invariant.within c.read_due.ensures.keeps read old new
          (on Old old s) (on New new t))
          ∙ seek_past path (change_of c.in-Some.trusted) (remaining c.pass_on.new.self c.read_due.new.desk old new)
          (remaining c.read_due.new.self c.read_due.new.desk old new) (passed.gives old new) (sym c.if-not-is_before.ensures);
    }

pub seek-smaller : goal.seek-smaller
seek-smaller g c = omega (arith, c.pass_on.ensures.passed.falls, c.in_default.ensures.read.falls)
