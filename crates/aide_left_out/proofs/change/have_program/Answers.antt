use Rattle.std.proofs.Common.{◌∙◌, ap}
use Rattle.std.specs.Prelude.{◌||◌}
use Rattle.aide_agreement.specs.Found.{found}
use Rattle.aide_left_out.specs.LeftOut.{has_program}
use Rattle.aide_left_out.proofs.change.have_program.Goals as goal

pub returns-else-has_program : goal.returns-else-has_program
returns-else-has_program c =
    c.has_program-else-has_program.ensures ∙ ap (λ b. b || has_program (found c.args.new_one)) c.if-has_program.ensures
