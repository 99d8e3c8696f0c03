use Rattle.std.proofs.Common.{rules}
use Rattle.aide_text.proofs.counts.Counts.databases_differ.Goals as goal
use Rattle.aide_text.proofs.counts.Counts.databases_differ.Goals.{then-self-ne0, else-self-ne0}

pub returns-then-self-ne0-2 : goal.returns-then-self-ne0-2
returns-then-self-ne0-2 c = search (rules, then-self-ne0, else-self-ne0)

pub returns-else-self-ne0-2 : goal.returns-else-self-ne0-2
returns-else-self-ne0-2 c = search (rules, then-self-ne0, else-self-ne0)
