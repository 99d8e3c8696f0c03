use Rattle.aide_merge.specs.code.ChangeView.{change_of}
use Rattle.aide_merge.specs.Said.{shows_at, shows_any}
use Rattle.aide_agreement.proofs.ListLemmas.{any_in}
use Rattle.aide_report.proofs.count.counts_as.Goals as goal

pub returns-clause-shown : goal.returns-clause-shown
unfolding shows_any
returns-clause-shown c =
    any_in c.said_of-changed.result.0 (shows_at c.args.options.now (change_of c.args.change).1) c.is_empty.result
    c.said_of-changed.ensures.shown c.is_empty.ensures
