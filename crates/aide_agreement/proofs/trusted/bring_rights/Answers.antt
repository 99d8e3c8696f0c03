use Rattle.std.proofs.Common.{◌∙◌}
use Rattle.aide_attr.specs.Difference.{sides_of}
use Rattle.aide_agreement.specs.Trusted.{brings_right}
use Rattle.aide_agreement.proofs.AgreeLemmas.{both_and}
use Rattle.aide_agreement.proofs.ListLemmas.{any_in}
use Rattle.aide_agreement.proofs.trusted.bring_rights.Goals as goal

pub returns : goal.returns
returns c = any_in c.common-brought.result (brings_right (sides_of c.args.here.now) (sides_of c.args.before.now))
    c.is_empty.result
    (λ a. c.common-brought.ensures a ∙ both_and _ _ _ _ (c.moved_rights.ensures a) (c.affected.ensures a))
    c.is_empty.ensures
