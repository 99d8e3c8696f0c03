use Rattle.std.proofs.Common.{rules}
use Rattle.std.specs.Prelude.{is_some}
use Rattle.aide_entry.specs.View.{entry_in}
use Rattle.aide_entry.proofs.AttrLoops.{begins_filling, filled, steps}
use Rattle.aide_entry.proofs.ColumnAttrLemmas.{unlisted}
use Rattle.aide_entry.proofs.view.View.attrs.Goals as goal

pub attrs-init : goal.attrs-init
attrs-init c = search (rules, begins_filling, unlisted)

pub attrs-preserved : goal.attrs-preserved
attrs-preserved c =
    steps c.attrs.set c.with_if-set.result c.in-Some.attr.now c.has.result c.attrs.rest.now c.in-Some.more.now
    (λ a. is_some ((entry_in c.args.self.now).1 a))
    c.in-Some.ensures.cases.0 (rw c.with_bits-read.ensures at c.has.ensures) c.with_if-set.ensures c.attrs.invariant

pub returns : goal.returns
returns c =
    filled _ _ (λ a. is_some ((entry_in c.args.self.now).1 a)) c.in_default.ensures.cases c.attrs.invariant
