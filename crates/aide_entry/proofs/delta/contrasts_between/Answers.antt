use Rattle.std.proofs.Common.{rules}
use Rattle.std.specs.Prelude.{is_some}
use Rattle.aide_fields.specs.Attributes.{is_different}
use Rattle.aide_entry.specs.View.{entry_in}
use Rattle.aide_entry.proofs.AttrLoops.{begins_filling, filled, steps}
use Rattle.aide_entry.proofs.delta.contrasts_between.Goals as goal

pub attrs-init : goal.attrs-init
attrs-init c = search (rules, begins_filling)

pub attrs-preserved : goal.attrs-preserved
attrs-preserved c = record {
  old_filling = steps c.attrs.in_old c.with_if-in_old.result c.in-Some.attr.now c.contrast_at-contrast.result.in_old c.attrs.rest.now
      c.in-Some.more.now
      (λ a. is_some ((entry_in c.args.old.now).1 a)) c.in-Some.ensures.cases.0
      (rw c.with_bits-old_read.ensures at c.contrast_at-contrast.ensures.in_old) c.with_if-in_old.ensures c.attrs.invariant.old_filling;
  new_filling = steps c.attrs.in_new c.with_if-in_new.result c.in-Some.attr.now c.contrast_at-contrast.result.in_new c.attrs.rest.now
      c.in-Some.more.now
      (λ a. is_some ((entry_in c.args.new.now).1 a)) c.in-Some.ensures.cases.0
      (rw c.with_bits-new_read.ensures at c.contrast_at-contrast.ensures.in_new) c.with_if-in_new.ensures c.attrs.invariant.new_filling;
  differs_filling = steps c.attrs.differs c.with_if-differs.result c.in-Some.attr.now c.contrast_at-contrast.result.differs
      c.attrs.rest.now c.in-Some.more.now
      (λ a. is_different ((entry_in c.args.old.now).1 a) ((entry_in c.args.new.now).1 a)) c.in-Some.ensures.cases.0
      (rw (c.with_bits-old_read.ensures, c.with_bits-new_read.ensures) at c.contrast_at-contrast.ensures.differs)
      c.with_if-differs.ensures c.attrs.invariant.differs_filling;
}

pub returns-clause-in_old : goal.returns-clause-in_old
returns-clause-in_old c =
    filled _ _ (λ a. is_some ((entry_in c.args.old.now).1 a)) c.in_default.ensures.cases c.attrs.invariant.old_filling

pub returns-clause-in_new : goal.returns-clause-in_new
returns-clause-in_new c =
    filled _ _ (λ a. is_some ((entry_in c.args.new.now).1 a)) c.in_default.ensures.cases c.attrs.invariant.new_filling

pub returns-clause-differs : goal.returns-clause-differs
returns-clause-differs c =
    filled _ _ (λ a. is_different ((entry_in c.args.old.now).1 a) ((entry_in c.args.new.now).1 a)) c.in_default.ensures.cases
    c.attrs.invariant.differs_filling
