use Rattle.std.proofs.Common.{◌∙◌, ap}
use Rattle.std.specs.Prelude.{not}
use Rattle.std.specs.List.{list_any}
use Rattle.aide_attr.specs.Attr.{all_attrs}
use Rattle.aide_attr.specs.Difference.{sides_of}
use Rattle.aide_entry.specs.View.{entry_in}
use Rattle.aide_agreement.specs.Trusted.{moves_right}
use Rattle.aide_agreement.proofs.AgreeLemmas.{same_sides}
use Rattle.aide_agreement.proofs.ListLemmas.{none_in}
use Rattle.aide_agreement.proofs.trusted.keep_rights.Goals as goal

pub returns : goal.returns
returns c =
    let d = c.delta_of.ensures in
    none_in c.moved_rights-moved.result (moves_right (sides_of c.delta_of.result)) c.is_empty.result
    c.moved_rights-moved.ensures c.is_empty.ensures
    ∙ ap (λ s. not (list_any (moves_right s) all_attrs))
    (same_sides c.delta_of.result (entry_in c.args.old.now).1 (entry_in c.args.new.now).1
    d.in_old d.in_new d.differs d.size d.old_type d.new_type)
