use Rattle.aide_attr.proofs.groups.Groups.define.Goals as goal

pub returns-then-not-is_group_name-clause-named : goal.returns-then-not-is_group_name-clause-named
returns-then-not-is_group_name-clause-named g c = tt

pub returns-then-not-is_group_name-clause-space : goal.returns-then-not-is_group_name-clause-space
returns-then-not-is_group_name-clause-space g c = tt

pub returns-then-not-is_group_name-clause-ok : goal.returns-then-not-is_group_name-clause-ok
returns-then-not-is_group_name-clause-ok g c = tt
