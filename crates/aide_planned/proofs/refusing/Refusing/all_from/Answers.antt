use Rattle.aide_planned.proofs.refusing.Refusing.all_from.Goals as goal

pub returns-clause-for_good : goal.returns-clause-for_good
returns-clause-for_good g c = c.new.ensures.for_good
