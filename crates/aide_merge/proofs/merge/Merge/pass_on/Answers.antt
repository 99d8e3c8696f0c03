use Rattle.aide_merge.specs.code.Upcoming.{upcoming}
use Rattle.aide_merge.proofs.CallLemmas.{passed_on, still_within}
use Rattle.aide_merge.proofs.UpcomingLemmas.{next_falls, next_given, still_ready}
use Rattle.aide_merge.proofs.merge.Merge.pass_on.Goals as goal

pub returns-clause-keeps : goal.returns-clause-keeps
returns-clause-keeps g c =
    rw (c.release.ensures (upcoming c.args.self.now c.args.desk.now) c.requires.shown)
    (passed_on g.R.Reel c.args.self.now c.args.desk.now _ _)

pub returns-clause-passed : goal.returns-clause-passed
returns-clause-passed g c =
    let m = c.args.self.now in
    let d = c.args.desk.now in
    let ready = c.requires.ready in
    let not_due = c.requires.not_due in
    rw (c.release.ensures (upcoming m d) c.requires.shown) (record {
      ready = still_ready m d ready not_due;
      within = still_within m _ _;
      falls = next_falls m d ready not_due (λ none. cc);
      gives = next_given m d ready not_due _ c.requires.shown;
    })
