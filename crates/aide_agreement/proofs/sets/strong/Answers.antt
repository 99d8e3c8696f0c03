use Rattle.std.proofs.Common.{◌∙◌}
use Rattle.aide_agreement.proofs.SetLemmas.{strong_listed}
use Rattle.aide_agreement.proofs.sets.strong.Goals as goal

pub returns : goal.returns
returns c = λ attr. c.set_of.ensures attr ∙ strong_listed attr
