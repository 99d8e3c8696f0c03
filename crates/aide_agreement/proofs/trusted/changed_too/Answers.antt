use Rattle.aide_attr.specs.Difference.{sides_of}
use Rattle.aide_entry.specs.View.{entry_in}
use Rattle.aide_agreement.proofs.AgreeLemmas.{changed_sides, same_sides}
use Rattle.aide_agreement.proofs.trusted.changed_too.Goals as goal

pub returns : goal.returns
returns c =
    let old = (entry_in c.args.old.now).1 in
    let new = (entry_in c.args.new.now).1 in
    let before = (entry_in c.args.before.now).1 in
    let there = (entry_in c.args.there.now).1 in
    let h = c.delta_of-here.ensures in
    let a = c.delta_of-apart.ensures in
    let b = c.delta_of-beyond.ensures in
    changed_sides old new before there (sides_of c.delta_of-here.result) (sides_of c.delta_of-apart.result)
    (sides_of c.delta_of-beyond.result) c.changed_by.result c.have_targets-here_targets.result
    c.have_targets-there_targets.result
    (same_sides c.delta_of-here.result old new h.in_old h.in_new h.differs h.size h.old_type h.new_type)
    (same_sides c.delta_of-apart.result old before a.in_old a.in_new a.differs a.size a.old_type a.new_type)
    (same_sides c.delta_of-beyond.result before there b.in_old b.in_new b.differs b.size b.old_type b.new_type)
    c.have_targets-here_targets.ensures c.have_targets-there_targets.ensures c.changed_by.ensures
