use Rattle.std.proofs.Common.{rules}
use Rattle.aide_merge.proofs.merge.first_change.Goals as goal

pub returns-in-Less : goal.returns-in-Less
returns-in-Less c = search rules

pub returns-in-Equal : goal.returns-in-Equal
returns-in-Equal c = search rules

pub returns-in-Greater : goal.returns-in-Greater
returns-in-Greater c = search rules
