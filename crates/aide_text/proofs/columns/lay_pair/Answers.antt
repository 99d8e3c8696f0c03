use Rattle.std.proofs.Common.{rules}
use Rattle.aide_text.proofs.Laying.{paired}
use Rattle.aide_text.proofs.columns.lay_pair.Goals as goal

pub returns-clause-laid : goal.returns-clause-laid
returns-clause-laid c = search (rules, paired)
