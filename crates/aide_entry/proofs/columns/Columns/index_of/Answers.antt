use Rattle.std.proofs.Common.{rules}
use Rattle.aide_entry.proofs.FirstColumnLemmas.{none_found, some_found}
use Rattle.aide_entry.proofs.columns.Columns.index_of.Goals as goal

pub returns-then-first-eq0-clause-none : goal.returns-then-first-eq0-clause-none
returns-then-first-eq0-clause-none c = search (rules, none_found)

pub returns-else-first-eq0-clause-some : goal.returns-else-first-eq0-clause-some
returns-else-first-eq0-clause-some c = search (rules, some_found)
