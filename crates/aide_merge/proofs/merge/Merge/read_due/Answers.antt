use Rattle.std.proofs.Common.{◌∙◌, List, ap, arith, is_some, rules, ℕ}
use Rattle.std.proofs.lemmas.Result.{err_from_is_err_and}
use Rattle.aide_db.specs.Desk.{desk_entry}
use Rattle.aide_db.specs.declared.side.Side.TheVariants.{Old, New}
use Rattle.aide_merge.specs.Standing.{rest_of}
use Rattle.aide_merge.specs.code.Merging.{StandsAt}
use Rattle.aide_merge.specs.code.NextEntry.{ahead}
use Rattle.aide_merge.proofs.CallLemmas.{advanced_at, both_keep, cursor_none, new_fault, old_fault}
use Rattle.aide_merge.proofs.StandingLemmas.{kept_entry, stands_across}
use Rattle.aide_merge.proofs.Steps.{read_gives}
use Rattle.aide_merge.proofs.merge.Merge.read_due.Goals as goal

pub returns-in_err-self-clause-keeps : goal.returns-in_err-self-clause-keeps
returns-in_err-self-clause-keeps g c = search (rules, both_keep, cursor_none)

pub returns-in_err-self-clause-fault : goal.returns-in_err-self-clause-fault
returns-in_err-self-clause-fault g c =
    let p = err_from_is_err_and c.from_residual.result c.from_residual.ensures.1 in
    rw p.1 (old_fault g.R.Reel c.args.self.now _ c.args.desk.now _ c.requires.old_side (rw p.2 c.in_err-self.ensures.fault))

pub returns-in_err-self-2-clause-keeps : goal.returns-in_err-self-2-clause-keeps
returns-in_err-self-2-clause-keeps g c =
    both_keep g.R.Reel c.args.self.now _ c.args.desk.now c.advance.new.desk c.advance-2.new.desk
    c.requires.old_side c.requires.new_side (rw c.requires.old_side at c.advance.ensures.other)
    (rw c.requires.new_side at c.advance-2.ensures.other) c.advance.ensures.keeps c.advance-2.ensures.keeps

pub returns-in_err-self-2-clause-fault : goal.returns-in_err-self-2-clause-fault
returns-in_err-self-2-clause-fault g c = search (rules, err_from_is_err_and, new_fault)

pub returns-clause-keeps : goal.returns-clause-keeps
returns-clause-keeps g c =
    both_keep g.R.Reel c.args.self.now _ c.args.desk.now c.advance.new.desk c.advance-2.new.desk
    c.requires.old_side c.requires.new_side (rw c.requires.old_side at c.advance.ensures.other)
    (rw c.requires.new_side at c.advance-2.ensures.other) c.advance.ensures.keeps c.advance-2.ensures.keeps

pub returns-clause-read : goal.returns-clause-read
returns-clause-read g c =
    let kept_new = rw c.requires.old_side at c.advance.ensures.other in
    let kept_old = rw c.requires.new_side at c.advance-2.ensures.other in
    let one = advanced_at c.requires.old_side c.in_ok-self.ensures.advanced in
    let two = advanced_at c.requires.new_side c.in_ok-self-2.ensures.advanced in
    let same_new = kept_entry New c.args.desk.now c.advance.new.desk kept_new in
    let same_old = kept_entry Old c.advance.new.desk c.advance-2.new.desk kept_old in
    let stands_new = λ (new : List ℕ) (s : StandsAt g.R.Reel.to_come c.args.self.now c.args.desk.now New new).
    stands_across g.R.Reel.to_come c.args.self.now.new_cursor New c.args.desk.now c.advance.new.desk new
    c.requires.new_side kept_new s in
    record {
      ready = record {
        old_side = c.advance.ensures.keeps.side ∙ c.requires.old_side;
        new_side = c.advance-2.ensures.keeps.side ∙ c.requires.new_side;
        old_unfailed = one.unfailed;
        new_unfailed = two.unfailed;
        old_here = λ h. ap is_some same_old ∙ one.here c.requires.old_here h;
        new_here = two.here (λ h. ap is_some same_new ∙ c.requires.new_here h);
        old_ended = one.ended c.requires.old_ended;
        new_ended = two.ended c.requires.new_ended;
      };
      not_due = record { old_not_due = one.not_due; new_not_due = two.not_due };
      within = λ w. record {
        old_used = one.within w.old_used;
        new_used = two.within w.new_used;
        old_limits = rw c.advance.ensures.keeps.limits w.old_limits;
        new_limits = rw c.advance-2.ensures.keeps.limits w.new_limits;
      };
      falls = omega (arith, one.falls, two.falls);
      old_ahead = λ old s. ap (λ a. ahead c.in_ok-self.field-0 a (rest_of c.advance.new.cursor old)) same_old ∙ one.same_ahead old s;
      new_ahead = λ new s. two.same_ahead new (stands_new new s)
          ∙ ap (λ a. ahead c.args.self.now.new_next a (rest_of c.args.self.now.new_cursor new)) same_new;
      same = λ old new s_old s_new. read_gives c.args.self.now.old_next c.in_ok-self.field-0 c.args.self.now.new_next
          c.in_ok-self-2.field-0
          (desk_entry Old c.args.desk.now) (desk_entry Old c.advance.new.desk) (desk_entry Old c.advance-2.new.desk)
          (desk_entry New c.args.desk.now) (desk_entry New c.advance.new.desk) (desk_entry New c.advance-2.new.desk)
          (rest_of c.args.self.now.old_cursor old) (rest_of c.advance.new.cursor old)
          (rest_of c.args.self.now.new_cursor new) (rest_of c.advance-2.new.cursor new)
          (one.same_ahead old s_old)
          (two.same_ahead new (stands_new new s_new))
          same_new same_old;
    }
