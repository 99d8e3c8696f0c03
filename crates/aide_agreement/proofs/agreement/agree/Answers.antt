use Rattle.aide_attr.specs.Difference.{sides_of}
use Rattle.aide_entry.specs.View.{entry_in}
use Rattle.aide_agreement.proofs.AgreeLemmas.{agree_else, agree_then, same_sides}
use Rattle.aide_agreement.proofs.agreement.agree.Goals as goal

pub returns-then-say_rights : goal.returns-then-say_rights
returns-then-say_rights c =
    let x = (entry_in c.args.first.now).1 in
    let y = (entry_in c.args.second.now).1 in
    let d = c.delta_of-delta.ensures in
    agree_then (sides_of c.delta_of-delta.result) x y
    (same_sides c.delta_of-delta.result x y d.in_old d.in_new d.differs d.size d.old_type d.new_type)
    c.are_same.result c.have_targets-targets.result c.have_targets-targets.ensures c.if-say_rights.ensures
    c.are_same.ensures

pub returns-else-say_rights : goal.returns-else-say_rights
returns-else-say_rights c =
    let x = (entry_in c.args.first.now).1 in
    let y = (entry_in c.args.second.now).1 in
    let d = c.delta_of-delta.ensures in
    agree_else (sides_of c.delta_of-delta.result) x y
    (same_sides c.delta_of-delta.result x y d.in_old d.in_new d.differs d.size d.old_type d.new_type)
    c.say_rights.result c.say_rights.ensures c.if-say_rights.ensures
