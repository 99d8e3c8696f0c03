use Rattle.std.proofs.Common.{rules}
use Rattle.aide_text.proofs.value.kind_text.Goals as goal

pub returns-in-Some : goal.returns-in-Some
returns-in-Some c = search (rules)
