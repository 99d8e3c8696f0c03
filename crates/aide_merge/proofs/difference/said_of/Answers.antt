use Rattle.std.proofs.Common.{◌∙◌, ap, sym}
use Rattle.aide_merge.specs.code.ChangeView.{change_of}
use Rattle.aide_merge.specs.Changed.{differ_by}
use Rattle.aide_merge.specs.Changes.{is_changed}
use Rattle.aide_merge.specs.Said.{shows_at}
use Rattle.aide_merge.proofs.difference.said_of.Goals as goal

pub returns-in-Added-clause-shown : goal.returns-in-Added-clause-shown
returns-in-Added-clause-shown c = λ attr. c.alone_in.ensures attr
    ∙ ap (λ change. shows_at c.args.options.now (change_of change).1 attr) (sym c.in-Added.is)

pub returns-in-Added-clause-changed : goal.returns-in-Added-clause-changed
returns-in-Added-clause-changed c = ap (λ change. is_changed (differ_by c.args.options.now.ignore) (change_of change)) (sym c.in-Added.is)

pub returns-in-Removed-clause-shown : goal.returns-in-Removed-clause-shown
returns-in-Removed-clause-shown c = λ attr. c.alone_in-in-Removed.ensures attr
    ∙ ap (λ change. shows_at c.args.options.now (change_of change).1 attr) (sym c.in-Removed.is)

pub returns-in-Removed-clause-changed : goal.returns-in-Removed-clause-changed
returns-in-Removed-clause-changed c = ap (λ change. is_changed (differ_by c.args.options.now.ignore) (change_of change))
    (sym c.in-Removed.is)

pub returns-in-Common-clause-shown : goal.returns-in-Common-clause-shown
returns-in-Common-clause-shown c = λ attr. c.said_between.ensures.shown attr
    ∙ ap (λ change. shows_at c.args.options.now (change_of change).1 attr) (sym c.in-Common.is)

pub returns-in-Common-clause-changed : goal.returns-in-Common-clause-changed
returns-in-Common-clause-changed c = c.said_between.ensures.differ
    ∙ ap (λ change. is_changed (differ_by c.args.options.now.ignore) (change_of change)) (sym c.in-Common.is)
