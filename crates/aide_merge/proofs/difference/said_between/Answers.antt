use Rattle.std.proofs.Common.{◌∙◌}
use Rattle.aide_attr.specs.Difference.{sides_of}
use Rattle.aide_fields.specs.Attributes.{sides_between}
use Rattle.aide_entry.specs.View.{entry_in}
use Rattle.aide_merge.proofs.DifferenceLemmas.{differ_from, same_shown}
use Rattle.aide_merge.proofs.difference.said_between.Goals as goal

pub returns-clause-shown : goal.returns-clause-shown
returns-clause-shown c = λ attr. c.shown-shown.ensures attr
    ∙ same_shown (sides_of c.attrs_delta_of-delta.result)
    (sides_between (entry_in c.args.old.now).1 (entry_in c.args.new.now).1) c.args.options.now.ignore c.args.options.now.level attr
    c.attrs_delta_of-delta.ensures.in_old c.attrs_delta_of-delta.ensures.in_new c.attrs_delta_of-delta.ensures.differs

pub returns-clause-differ : goal.returns-clause-differ
returns-clause-differ c =
    differ_from (sides_of c.attrs_delta_of-delta.result) (entry_in c.args.old.now).1
    (entry_in c.args.new.now).1 c.args.options.now.ignore c.reported-reported.result c.is_empty.result
    c.attrs_delta_of-delta.ensures.in_old c.attrs_delta_of-delta.ensures.in_new c.attrs_delta_of-delta.ensures.differs
    c.reported-reported.ensures c.is_empty.ensures
