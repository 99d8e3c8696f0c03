use Rattle.std.proofs.Common.{◌∙◌, ap}
use Rattle.std.specs.Prelude.{◌&&◌, not}
use Rattle.std.specs.List.{list_any}
use Rattle.aide_attr.specs.Attr.{all_attrs}
use Rattle.aide_attr.specs.Difference.{sides_of}
use Rattle.aide_agreement.specs.Own.{is_directory}
use Rattle.aide_agreement.specs.Trusted.{differs_in_content}
use Rattle.aide_agreement.proofs.ListLemmas.{none_in}
use Rattle.aide_agreement.proofs.trusted.have_same_content.Goals as goal

pub returns-then-share_content : goal.returns-then-share_content
returns-then-share_content c =
    let s = sides_of c.args.delta.now in
    none_in c.differing-apart.result (differs_in_content (is_directory c.args.kind) s) c.is_empty.result
    (λ a. c.differing-apart.ensures a ∙ ap (λ d. differs_in_content d s a) c.is_directory.ensures) c.is_empty.ensures
    ∙ ap (λ b. b && not (list_any (differs_in_content (is_directory c.args.kind) s) all_attrs)) c.if-share_content.ensures
