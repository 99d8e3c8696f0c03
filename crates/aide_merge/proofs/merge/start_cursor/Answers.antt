use Rattle.std.proofs.Common.{rules, ◌≡◌, ℕ, List, Some, IfSome, subst}
use Rattle.aide_db.specs.Answer.{StandsWith}
use Rattle.aide_db.specs.Side.{other_side}
use Rattle.aide_merge.proofs.BoundLemmas.{fits_opened, within_started}
use Rattle.aide_merge.proofs.StandingLemmas.{stands_at, unfailed_start}
use Rattle.aide_merge.proofs.merge.start_cursor.Goals as goal

pub returns-clause-started : goal.returns-clause-started
returns-clause-started g c bytes_of gives =
    let start = c.start.ensures in
    let given = λ (text : List ℕ) (told : bytes_of c.args.side ≡ Some text). subst
    (λ bytes. IfSome bytes (λ all. g.R.Reel.to_come c.args.reel ≡ Some all)) told gives in
    let stands = λ (text : List ℕ) (told : bytes_of c.args.side ≡ Some text). stands_at g.R.Reel.to_come c.start.result c.args.side
    c.start.new.desk text start.begins.side
    (subst (λ come. IfSome come (λ all. StandsWith g.R.Reel.to_come c.args.side c.start.result c.start.new.desk all))
    (given text told) start.stands) in
    record {
      of_side = start.begins.side;
      limits_of = start.begins.limits;
      unfailed = unfailed_start c.start.result.stage start.begins.stage;
      used = start.begins.used;
      stands = stands;
      rest = search rules;
      within = λ longest. within_started g.R.Reel.to_come c.args.limits bytes_of c.args.side c.start.result c.start.new.desk longest
          start.begins.limits stands;
    }

pub returns-clause-desk : goal.returns-clause-desk
returns-clause-desk g c = record {
  other = (c.start.ensures.desk.other, c.start.ensures.desk.columns (other_side c.args.side));
  room = c.start.ensures.desk.room;
  fits = fits_opened c.args.side c.args.desk.now c.start.new.desk c.start.ensures.desk.emptied c.start.ensures.desk.other
      c.start.ensures.desk.peak;
}
