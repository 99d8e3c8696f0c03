use Rattle.std.proofs.Common.{rules}
use Rattle.aide_merge.proofs.change.path_of.Goals as goal

pub returns : goal.returns
returns c = search rules
