use Rattle.std.proofs.Common.{rules}
use Rattle.aide_entry.proofs.JudgedFields.{judged_field}
use Rattle.aide_entry.proofs.view.ViewWithBits.has.Goals as goal

pub has_value-requires : goal.has_value-requires
has_value-requires c = search (rules, judged_field)
