use Rattle.std.proofs.Common.{rules}
use Rattle.aide_merge.proofs.difference.letters.Goals as goal

pub returns-in-Added-clause-letters : goal.returns-in-Added-clause-letters
returns-in-Added-clause-letters c = search rules
