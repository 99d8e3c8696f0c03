use Rattle.std.proofs.Common.{ap}
use Rattle.aide_text.specs.Printed.{printed}
use Rattle.aide_text.proofs.Sheets.{cut_within, wrote_as}
use Rattle.aide_text.proofs.pen.emit_path.Goals as goal

pub returns-then-pen-clause-cut : goal.returns-then-pen-clause-cut
returns-then-pen-clause-cut g c =
    cut_within (ap (λ pen. pen.failed) c.new-pen.ensures) c.if-pen.true (ap (λ pen. pen.sent) c.new-pen.ensures)
    (wrote_as (ap printed c.of.ensures) c.put_path.ensures)
