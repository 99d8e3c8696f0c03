use Rattle.std.proofs.Common.{arith}
use Rattle.std.proofs.lemmas.Grind.{common_steps}
use Rattle.aide_fields.proofs.path.is_between_escapes.Goals as goal

pub returns-else-at-lt2-clause-between : goal.returns-else-at-lt2-clause-between
returns-else-at-lt2-clause-between c = grind (arith, common_steps)
