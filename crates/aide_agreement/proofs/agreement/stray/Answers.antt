use Rattle.std.proofs.Common.{◌∙◌, ap}
use Rattle.std.specs.Prelude.{◌||◌, ◌&&◌, not}
use Rattle.aide_attr.specs.Difference.{sides_of}
use Rattle.aide_attr.specs.Set.{has}
use Rattle.aide_agreement.specs.Agreement.{strays}
use Rattle.aide_agreement.proofs.AgreeLemmas.{stray_at}
use Rattle.aide_agreement.proofs.ListLemmas.{any_in}
use Rattle.aide_agreement.proofs.agreement.stray.Goals as goal

pub returns : goal.returns
returns c = any_in c.minus-rest.result (strays c.args.directories (sides_of c.args.delta.now)) c.is_empty.result
    (λ a. c.minus-rest.ensures a
    ∙ ap (λ b. b && not (has c.own.result a)) (c.union.ensures a)
    ∙ ap (λ b. (has c.changed.result a || b) && not (has c.own.result a)) (c.minus-missing.ensures a)
    ∙ stray_at _ _ _ _ _ _ _ _ (c.changed.ensures a) (c.alone.ensures a) (c.digests.ensures a) (c.own.ensures a))
    c.is_empty.ensures
