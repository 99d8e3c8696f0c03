use Rattle.std.proofs.Common.{◌∙◌}
use Rattle.aide_attr.specs.Difference.{sides_of}
use Rattle.aide_agreement.specs.Agreement.{is_shared}
use Rattle.aide_agreement.proofs.AgreeLemmas.{both_and}
use Rattle.aide_agreement.proofs.ListLemmas.{any_in}
use Rattle.aide_agreement.proofs.agreement.share_digest.Goals as goal

pub returns : goal.returns
returns c = any_in c.common-shared.result (is_shared (sides_of c.args.delta.now)) c.is_empty.result
    (λ a. c.common-shared.ensures a ∙ both_and _ _ _ _ (c.same.ensures a) (c.strong.ensures a)) c.is_empty.ensures
