use Rattle.std.proofs.Common.{◌≡◌, length}
use Rattle.std.specs.List.{list_any}
use Rattle.aide_entry.specs.Fields.{is_column}
use Rattle.aide_entry.proofs.spec_line.stands_in.Given as goal

abbrev pub invariant-others : goal.invariant-others
invariant-others l = list_any (is_column l.column) l.rest ≡ list_any (is_column l.column) l.others

abbrev pub decreases-others : goal.decreases-others
decreases-others l = length l.rest
