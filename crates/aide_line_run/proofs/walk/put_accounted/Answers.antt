use Rattle.std.proofs.Common.{◌∙◌, ◌<◌, ◌^◌, arith, refl, rules}
use Rattle.std.specs.Prelude.{None}
use Rattle.aide_merge.specs.code.ChangeView.{alike_of, change_of}
use Rattle.aide_merge.specs.code.Merging.{total_work}
use Rattle.aide_merge.proofs.CallLemmas.{merge_fault, merge_none, merge_then}
use Rattle.aide_line_run.proofs.TallyLemmas.{below_all, small_more, small_start, tally_alike}
use Rattle.aide_line_run.specs.ListView.{list_read}
use Rattle.aide_line_run.proofs.FrontLemmas.{front_same}
use Rattle.aide_line_run.proofs.WalkLemmas.{walk_alike, walk_ended, walk_more, walk_start, walk_stopped}
use Rattle.aide_line_run.proofs.walk.put_accounted.Goals as goal

pub pass-init : goal.pass-init
pass-init g c = search (rules, small_start, merge_none, walk_start)

pub read_due-requires : goal.read_due-requires
read_due-requires g c = c.pass.invariant.ready

pub seek-requires : goal.seek-requires
seek-requires g c = record { ready = c.pass.invariant.trusted_ready; within = c.pass.invariant.trusted_within }

pub returns-in-Err-clause-keeps : goal.returns-in-Err-clause-keeps
returns-in-Err-clause-keeps g c = search (rules, merge_then)

pub returns-in-Err-clause-walked : goal.returns-in-Err-clause-walked
returns-in-Err-clause-walked g c = search (rules, walk_stopped)

pub returns-in-Err-clause-fault : goal.returns-in-Err-clause-fault
returns-in-Err-clause-fault g c =
    (c.pass.invariant.writes_on, merge_fault c.pass.invariant.keeps.compared c.in-Err.ensures.fault)

pub returns-in-End-clause-keeps : goal.returns-in-End-clause-keeps
returns-in-End-clause-keeps g c = search (rules, merge_then)

pub returns-in-End-clause-walked : goal.returns-in-End-clause-walked
returns-in-End-clause-walked g c =
    walk_ended g.R.Reel (list_read c.args.terms.now.list) c.args.terms.now.options.now c.args.merges.now c.args.desk.now
    c.args.trusted_desk.now c.pass.invariant.walking
    c.pass.invariant.keeps
    (λ old new s t. front_same c.pass.invariant.ready c.pass.invariant.within c.read_due.ensures.keeps
    c.in_default.ensures.read old new s t ∙ c.in-End.ensures.step.end old new refl)

pub returns-in-End-clause-ended : goal.returns-in-End-clause-ended
returns-in-End-clause-ended g c = search rules

pub returns-in-Err-seek-clause-keeps : goal.returns-in-Err-seek-clause-keeps
returns-in-Err-seek-clause-keeps g c = search (rules, merge_then)

pub returns-in-Err-seek-clause-walked : goal.returns-in-Err-seek-clause-walked
returns-in-Err-seek-clause-walked g c = search (rules, walk_stopped)

pub returns-in-Err-seek-clause-fault : goal.returns-in-Err-seek-clause-fault
returns-in-Err-seek-clause-fault g c =
    (c.pass.invariant.writes_on, merge_fault c.pass.invariant.keeps.trusted c.in-Err-seek.ensures.fault)

pub returns-then-pen-clause-keeps : goal.returns-then-pen-clause-keeps
returns-then-pen-clause-keeps g c = search (rules, merge_then)

pub returns-then-pen-clause-walked : goal.returns-then-pen-clause-walked
returns-then-pen-clause-walked g c =
    let step = c.in-Differs.ensures.step in
    walk_stopped g.R.Reel (list_read c.args.terms.now.list) c.args.terms.now.options.now c.args.merges.now c.args.desk.now
    c.args.trusted_desk.now
    (walk_more g.R.Reel (list_read c.args.terms.now.list) c.args.terms.now.options.now c.args.merges.now c.args.desk.now
    c.args.trusted_desk.now c.pass.invariant.walking c.pass.invariant.keeps (change_of c.in-Differs.change) c.account_of-account.result
    c.pass.invariant.ready c.pass.invariant.within c.read_due.ensures.keeps c.in_default.ensures.read step step.shows
    c.next.ensures.old_cursor c.next.ensures.new_cursor c.in_default-seek.ensures.sought c.account_of-account.ensures
    c.put_counted.ensures.counted c.put_counted.ensures.wrote)
    (record {
      compared = merge_then c.pass.invariant.keeps.compared (merge_then c.read_due.ensures.keeps c.next.ensures.keeps);
      trusted = merge_then c.pass.invariant.keeps.trusted c.seek.ensures.keeps;
    }) _

pub pass-preserved-else-pen : goal.pass-preserved-else-pen
pass-preserved-else-pen g c =
    let step = c.in-Differs.ensures.step in
    let fewer : total_work c.next.new.self < total_work c.pass.merges.compared =
    omega (arith, step.falls (λ e. cc), c.in_default.ensures.read.falls) in
    record {
      ready = step.ready;
      trusted_ready = c.in_default-seek.ensures.sought.ready;
      within = step.within (c.in_default.ensures.read.within c.pass.invariant.within);
      trusted_within = c.in_default-seek.ensures.sought.within;
      small = small_more c.args.terms.now.options.now c.pass.counts c.put_counted.new.counts
          (change_of c.in-Differs.change, c.account_of-account.result) (2 ^ 62)
          (total_work c.pass.merges.compared) (total_work c.next.new.self) fewer c.put_counted.ensures.counted c.pass.invariant.small;
      writes_on = c.if-pen.false;
      keeps = record {
        compared = merge_then c.pass.invariant.keeps.compared (merge_then c.read_due.ensures.keeps c.next.ensures.keeps);
        trusted = merge_then c.pass.invariant.keeps.trusted c.seek.ensures.keeps;
      };
      walking = walk_more g.R.Reel (list_read c.args.terms.now.list) c.args.terms.now.options.now c.args.merges.now c.args.desk.now
          c.args.trusted_desk.now c.pass.invariant.walking c.pass.invariant.keeps (change_of c.in-Differs.change)
          c.account_of-account.result c.pass.invariant.ready c.pass.invariant.within c.read_due.ensures.keeps
          c.in_default.ensures.read step step.shows c.next.ensures.old_cursor c.next.ensures.new_cursor
          c.in_default-seek.ensures.sought c.account_of-account.ensures
          c.put_counted.ensures.counted c.put_counted.ensures.wrote;
    }

pub pass-preserved : goal.pass-preserved
pass-preserved g c =
    let step = c.in-Alike.ensures.step in
    let fewer : total_work c.next.new.self < total_work c.pass.merges.compared =
    omega (arith, step.falls (λ e. cc), c.in_default.ensures.read.falls) in
    record {
      ready = step.ready;
      trusted_ready = c.pass.invariant.trusted_ready;
      within = step.within (c.in_default.ensures.read.within c.pass.invariant.within);
      trusted_within = c.pass.invariant.trusted_within;
      small = small_more c.args.terms.now.options.now c.pass.counts _ (alike_of step.shows.entry, None) (2 ^ 62)
          (total_work c.pass.merges.compared) (total_work c.next.new.self) fewer
          (tally_alike c.args.terms.now.options.now c.pass.counts step.shows.entry None) c.pass.invariant.small;
      writes_on = c.pass.invariant.writes_on;
      keeps = record {
        compared = merge_then c.pass.invariant.keeps.compared (merge_then c.read_due.ensures.keeps c.next.ensures.keeps);
        trusted = c.pass.invariant.keeps.trusted;
      };
      walking = walk_alike g.R.Reel (list_read c.args.terms.now.list) c.args.terms.now.options.now c.args.merges.now c.args.desk.now
          c.args.trusted_desk.now c.pass.invariant.walking
          c.pass.invariant.keeps step.shows.entry step.changes c.next.new.self c.read_due.new.desk
          (λ old new s t. front_same c.pass.invariant.ready c.pass.invariant.within c.read_due.ensures.keeps
          c.in_default.ensures.read old new s t ∙ step.gives old new) step.shows.only;
    }

pub put_counted-requires : goal.put_counted-requires
put_counted-requires g c =
    below_all c.args.terms.now.options.now c.pass.counts (2 ^ 62) (total_work c.pass.merges.compared) c.pass.invariant.small
