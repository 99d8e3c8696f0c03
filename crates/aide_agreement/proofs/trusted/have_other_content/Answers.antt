use Rattle.std.proofs.Common.{◌∙◌, ap}
use Rattle.std.specs.Prelude.{◌&&◌, ◌||◌, not}
use Rattle.aide_attr.specs.Difference.{sides_of}
use Rattle.aide_attr.specs.Set.{is_attr}
use Rattle.aide_attr.specs.declared.attr.Attr.TheVariants.{Lname}
use Rattle.aide_agreement.specs.Own.{is_directory}
use Rattle.aide_agreement.specs.Trusted.{differs_in_content, shows_other}
use Rattle.aide_agreement.proofs.ListLemmas.{any_in}
use Rattle.aide_agreement.proofs.trusted.have_other_content.Goals as goal

pub returns : goal.returns
returns c =
    let s = sides_of c.args.delta.now in
    any_in c.with_targets-shown.result (shows_other (is_directory c.args.kind) c.args.targets s) c.is_empty.result
    (λ a. c.with_targets-shown.ensures a
    ∙ ap (λ b. b && (c.args.targets || not (is_attr a Lname))) (c.differing.ensures a)
    ∙ ap (λ d. differs_in_content d s a && (c.args.targets || not (is_attr a Lname))) c.is_directory.ensures)
    c.is_empty.ensures
