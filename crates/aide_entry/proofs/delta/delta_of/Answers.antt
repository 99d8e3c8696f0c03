use Rattle.aide_entry.proofs.delta.delta_of.Goals as goal

pub returns-clause-size : goal.returns-clause-size
returns-clause-size c = cc
