use Rattle.std.proofs.Common.{rules}
use Rattle.aide_entry.proofs.ColumnLemmas.{same_codes}
use Rattle.aide_entry.proofs.columns.Columns.same.Goals as goal

pub returns-clause-only : goal.returns-clause-only
returns-clause-only c = search (rules, same_codes)

pub returns-clause-alike : goal.returns-clause-alike
returns-clause-alike c same = search rules

pub returns-then-eq-clause-only : goal.returns-then-eq-clause-only
returns-then-eq-clause-only c = search (rules, same_codes)
