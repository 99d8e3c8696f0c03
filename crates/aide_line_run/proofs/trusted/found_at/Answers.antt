use Rattle.std.proofs.Common.{rules, sym}
use Rattle.aide_merge.specs.code.ChangeView.{change_of}
use Rattle.aide_merge.specs.code.Merging.{remaining}
use Rattle.aide_merge.proofs.UpcomingLemmas.{upcoming_none, upcoming_one}
use Rattle.aide_line_run.proofs.SoughtLemmas.{found_here, found_other}
use Rattle.aide_line_run.proofs.trusted.found_at.Goals as goal

pub returns-in-None : goal.returns-in-None
returns-in-None g c old new = search (rules, upcoming_none)

pub returns-then-is_at : goal.returns-then-is_at
returns-then-is_at g c old new = search (rules, upcoming_one, found_here)

pub returns-else-is_at : goal.returns-else-is_at
returns-else-is_at g c old new =
    let trusted = change_of c.in-Some.trusted in
    let one = upcoming_one c.args.merge.now c.args.desk.now c.requires.ready c.requires.not_due trusted c.in-Some.ensures old new in
    sym (found_other (change_of c.args.change).0 trusted one.0 (remaining c.args.merge.now c.args.desk.now old new) one.1
    (sym c.if-is_at.ensures))
