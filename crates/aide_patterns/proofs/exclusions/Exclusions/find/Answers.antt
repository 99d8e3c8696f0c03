use Rattle.std.proofs.Common.{rules}
use Rattle.aide_patterns.proofs.DotLemmas.{line_is_found}
use Rattle.aide_patterns.proofs.exclusions.Exclusions.find.Goals as goal

pub returns-clause-found : goal.returns-clause-found
returns-clause-found c = search (rules, line_is_found)
