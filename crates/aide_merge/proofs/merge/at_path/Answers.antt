use Rattle.std.proofs.Common.{rules}
use Rattle.aide_entry.specs.View.{entry_in}
use Rattle.aide_merge.specs.code.ChangeView.{change_of}
use Rattle.aide_merge.proofs.AlikeLemmas.{next_of_alike, next_of_both}
use Rattle.aide_merge.proofs.merge.at_path.Goals as goal

pub returns-then-is_alike : goal.returns-then-is_alike
returns-then-is_alike g c = search (rules, next_of_alike)

pub returns-else-is_alike : goal.returns-else-is_alike
returns-else-is_alike g c =
    next_of_both (entry_in c.in-Some-Some.old) (entry_in c.in-Some-Some.new) (change_of c.first_change.result)
    (rw c.in-Some-Some.is-0 at c.next_view-old.ensures) (rw c.in-Some-Some.is-1 at c.next_view-new.ensures) c.first_change.ensures
