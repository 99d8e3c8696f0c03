use Rattle.std.proofs.Common.{rules}
use Rattle.aide_attr.specs.Name.{is_group_name}
use Rattle.aide_attr.proofs.name.is_group_name.Goals as goal

pub returns-then-not-is_some : goal.returns-then-not-is_some
unfolding is_group_name
returns-then-not-is_some c = search rules

pub returns-else-not-is_some : goal.returns-else-not-is_some
unfolding is_group_name
returns-else-not-is_some c = search rules
