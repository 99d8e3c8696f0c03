use Rattle.std.proofs.Common.{◌≡◌, ◌∙◌, ap, arith}
use Rattle.aide_fields.specs.Path.{path_cmp}
use Rattle.std.specs.Prelude.{Some}
use Rattle.aide_db.specs.declared.limits.Limits.{Limits}
use Rattle.aide_db.specs.declared.side.Side.TheVariants.{Old}
use Rattle.aide_merge.specs.Merged.{merged}
use Rattle.aide_merge.specs.code.Merging.{StandsAt}
use Rattle.aide_merge.specs.declared.merge.Merge.{Merge}
use Rattle.aide_merge.specs.declared.merge.NextEntry.TheVariants.{Due}
use Rattle.aide_merge.proofs.BoundLemmas.{within_across}
use Rattle.aide_merge.proofs.SideLemmas.{limits_each, of_sides}
use Rattle.aide_merge.proofs.StandingLemmas.{stands_across}
use Rattle.aide_merge.proofs.merge.Merge.start.Goals as goal

pub returns-clause-opened : goal.returns-clause-opened
returns-clause-opened g c bytes_of gives =
    let to_come = g.R.Reel.to_come in
    let old_cursor = c.start_cursor.result in
    let new_cursor = c.start_cursor-2.result in
    let middle = c.start_cursor.new.desk in
    let desk = c.start_cursor-2.new.desk in
    let old = c.start_cursor.ensures.started bytes_of gives.of_old in
    let new = c.start_cursor-2.ensures.started bytes_of gives.of_new in
    let other = c.start_cursor-2.ensures.desk.other in
    let merge : Merge g.row.R.Denot = record { old_cursor = old_cursor; new_cursor = new_cursor; old_next = Due; new_next = Due } in
    record {
      ready = record {
        old_side = old.of_side;
        new_side = new.of_side;
        old_unfailed = old.unfailed;
        new_unfailed = new.unfailed;
        old_here = λ e. cc;
        new_here = λ e. cc;
        old_ended = λ e. cc;
        new_ended = λ e. cc;
      };
      within = record {
        old_used = omega (arith, old.used);
        new_used = omega (arith, new.used);
        old_limits = rw old.limits_of c.requires;
        new_limits = rw new.limits_of c.requires;
      };
      limits_of = limits_each merge c.args.limits old.limits_of new.limits_of;
      short = omega (arith, ap (λ (l : Limits). l.bytes) old.limits_of, ap (λ (l : Limits). l.bytes) new.limits_of, c.requires.bytes);
      stands = of_sides (λ side text. bytes_of side ≡ Some text) (StandsAt to_come merge desk)
          (λ text told. stands_across to_come old_cursor Old middle desk text old.of_side other (old.stands text told))
          new.stands;
      rest = λ text later i. merged path_cmp (old.rest text i) (new.rest later i);
      within_old = λ longest within. within_across to_come old_cursor Old middle desk longest old.of_side other (old.within longest within);
      within_new = new.within;
    }

pub returns-clause-desk : goal.returns-clause-desk
returns-clause-desk g c bytes_of =
    let first = c.start_cursor.ensures.desk in
    let second = c.start_cursor-2.ensures.desk in
    record {
      room = second.room ∙ first.room;
      fits = λ old_line new_line before within_old within_new fits. second.fits old_line new_line before
          (first.fits old_line new_line before fits);
    }
