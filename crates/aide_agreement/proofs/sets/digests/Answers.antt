use Rattle.std.proofs.Common.{◌∙◌}
use Rattle.aide_agreement.proofs.AgreeLemmas.{both_or}
use Rattle.aide_agreement.proofs.SetLemmas.{digests_listed}
use Rattle.aide_agreement.proofs.sets.digests.Goals as goal

pub returns : goal.returns
returns c = λ attr.
    c.union.ensures attr ∙ both_or _ _ _ _ (c.set_of.ensures attr) (c.set_of-2.ensures attr) ∙ digests_listed attr
