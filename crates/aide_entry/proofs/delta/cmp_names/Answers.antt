use Rattle.aide_entry.proofs.delta.cmp_names.Goals as goal

pub returns : goal.returns
returns c = cc
