use Rattle.std.proofs.Common.{rules}
use Rattle.aide_merge.proofs.merge.Merge.have_column.Goals as goal

pub returns : goal.returns
returns c = search rules
