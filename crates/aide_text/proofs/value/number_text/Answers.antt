use Rattle.std.proofs.Common.{rules}
use Rattle.std.proofs.lemmas.Int.{to_z-of_z}
use Rattle.aide_text.proofs.value.number_text.Goals as goal

pub returns-in-Some : goal.returns-in-Some
returns-in-Some c = search (rules, to_z-of_z)
