use Rattle.std.proofs.Common.{rules}
use Rattle.aide_entry.proofs.FirstColumnLemmas.{first_placed, again_placed}
use Rattle.aide_entry.proofs.columns.note_first.Goals as goal

pub returns-then-firsts-code-eq0 : goal.returns-then-firsts-code-eq0
returns-then-firsts-code-eq0 c = search (rules, first_placed)

pub returns-else-firsts-code-eq0 : goal.returns-else-firsts-code-eq0
returns-else-firsts-code-eq0 c = search (rules, again_placed)
