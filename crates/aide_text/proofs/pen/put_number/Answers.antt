use Rattle.std.proofs.Common.{◌∙◌}
use Rattle.aide_text.proofs.Sheets.{wrote_as}
use Rattle.aide_text.proofs.pen.put_number.Goals as goal

pub returns : goal.returns
returns g c = wrote_as (c.as_bytes.ensures.value ∙ c.format.ensures.text) c.put.ensures
