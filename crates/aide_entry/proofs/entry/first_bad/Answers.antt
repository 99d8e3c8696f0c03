use Rattle.std.proofs.Common.{rules}
use Rattle.aide_entry.proofs.ShapeLemmas.{bad_by_shapes}
use Rattle.aide_entry.proofs.entry.first_bad.Goals as goal

pub returns-clause-same : goal.returns-clause-same
returns-clause-same c = search (rules, bad_by_shapes)
