use Rattle.aide_planned.proofs.refusing.Refusing.new.Goals as goal

pub returns-clause-refused : goal.returns-clause-refused
returns-clause-refused g c = c.new.ensures.refused
