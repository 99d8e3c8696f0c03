use Rattle.std.proofs.Common.{rules}
use Rattle.aide_merge.proofs.outcome.Outcome.status.Goals.{then-self-eq0-3, else-self-eq0-3}
use Rattle.aide_merge.proofs.outcome.Outcome.status.Goals as goal

pub returns : goal.returns
returns c = search (rules, then-self-eq0-3, else-self-eq0-3)
