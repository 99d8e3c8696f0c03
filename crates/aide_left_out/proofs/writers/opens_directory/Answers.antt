use Rattle.std.proofs.Common.{◌∙◌, ap, sym}
use Rattle.aide_agreement.specs.Found.{found}
use Rattle.aide_left_out.specs.Writers.{opens_directory}
use Rattle.aide_left_out.proofs.writers.opens_directory.Goals as goal

pub returns-in-Some : goal.returns-in-Some
returns-in-Some c =
    c.gains_writers.ensures ∙ ap (λ view. opens_directory (found c.args.old_one) (found view)) (sym c.in-Some.is)
