use Rattle.std.proofs.Common.{rules}
use Rattle.std.proofs.lemmas.List.{drop_all, length-take}
use Rattle.aide_text.proofs.ready.ReadyFeed.next_byte.Goals as goal

pub returns-else-self : goal.returns-else-self
returns-else-self c = search (rules, drop_all, length-take)
