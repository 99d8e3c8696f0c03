use Rattle.std.proofs.Common.{◌∙◌, ap₂}
use Rattle.aide_agreement.specs.Account.{same_as}
use Rattle.aide_line_run.proofs.trusted.same_of.Goals as goal

pub returns : goal.returns
returns g c old new = c.same_as.ensures.account ∙ ap₂ same_as c.entries_of.ensures.entries (c.found_at.ensures old new)
