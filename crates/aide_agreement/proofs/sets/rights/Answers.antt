use Rattle.std.proofs.Common.{◌∙◌}
use Rattle.aide_agreement.proofs.SetLemmas.{rights_listed}
use Rattle.aide_agreement.proofs.sets.rights.Goals as goal

pub returns : goal.returns
returns c = λ attr. c.set_of.ensures attr ∙ rights_listed attr
