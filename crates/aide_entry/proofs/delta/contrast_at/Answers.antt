use Rattle.std.proofs.Common.{rules}
use Rattle.aide_entry.proofs.JudgedFields.{judged_field}
use Rattle.aide_entry.proofs.delta.contrast_at.Goals as goal

pub has_value-requires : goal.has_value-requires
has_value-requires c = search (rules, judged_field)

pub has_value-requires-in-Some-None : goal.has_value-requires-in-Some-None
has_value-requires-in-Some-None c = search (rules, judged_field)

pub contrast_of-requires-clause-old : goal.contrast_of-requires-clause-old
contrast_of-requires-clause-old c = search (rules, judged_field)

pub contrast_of-requires-clause-new : goal.contrast_of-requires-clause-new
contrast_of-requires-clause-new c = search (rules, judged_field)
