use Rattle.std.proofs.Common.{◌∙◌, sym, ap}
use Rattle.std.specs.Prelude.{not}
use Rattle.aide_attr.specs.Difference.{sides_of}
use Rattle.aide_attr.specs.Summary.{summary_letters}
use Rattle.aide_entry.specs.View.{entry_in}
use Rattle.aide_merge.proofs.DifferenceLemmas.{differ_from}
use Rattle.aide_agreement.proofs.AgreeLemmas.{same_sides}
use Rattle.aide_merge.proofs.difference.letters_between.Goals as goal

pub returns-then-is_empty-clause-differ : goal.returns-then-is_empty-clause-differ
returns-then-is_empty-clause-differ c =
    ap not (sym c.if-is_empty.true) ∙ differ_from (sides_of c.delta_of-delta.result) (entry_in c.args.old.now).1
    (entry_in c.args.new.now).1 c.args.ignore.now c.reported-reported.result c.is_empty.result
    c.delta_of-delta.ensures.in_old c.delta_of-delta.ensures.in_new c.delta_of-delta.ensures.differs c.reported-reported.ensures
    c.is_empty.ensures

pub returns-else-is_empty-clause-differ : goal.returns-else-is_empty-clause-differ
returns-else-is_empty-clause-differ c =
    ap not (sym c.if-is_empty.false) ∙ differ_from (sides_of c.delta_of-delta.result) (entry_in c.args.old.now).1
    (entry_in c.args.new.now).1 c.args.ignore.now c.reported-reported.result c.is_empty.result
    c.delta_of-delta.ensures.in_old c.delta_of-delta.ensures.in_new c.delta_of-delta.ensures.differs c.reported-reported.ensures
    c.is_empty.ensures

pub returns-else-is_empty-clause-letters : goal.returns-else-is_empty-clause-letters
returns-else-is_empty-clause-letters c =
    c.summary.ensures ∙ ap (λ s. summary_letters s c.args.ignore.now)
    (same_sides c.delta_of-delta.result (entry_in c.args.old.now).1 (entry_in c.args.new.now).1
    c.delta_of-delta.ensures.in_old c.delta_of-delta.ensures.in_new c.delta_of-delta.ensures.differs c.delta_of-delta.ensures.size
    c.delta_of-delta.ensures.old_type c.delta_of-delta.ensures.new_type)
