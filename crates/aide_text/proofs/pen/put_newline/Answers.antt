use Rattle.aide_text.specs.Layout.{empty_line}
use Rattle.aide_text.proofs.pen.put_newline.Goals as goal

pub returns : goal.returns
unfolding empty_line
returns g c = c.put.ensures
