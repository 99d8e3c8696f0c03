use Rattle.std.proofs.Common.{◌∙◌, ap, sym}
use Rattle.aide_site.specs.Lines.{number_if_any}
use Rattle.aide_text.proofs.Sheets.{wrote_as, wrote_more}
use Rattle.aide_site.proofs.lines.put_fault_column.Goals as goal

pub returns-in-Some : goal.returns-in-Some
unfolding number_if_any
returns-in-Some g c =
    wrote_as (ap number_if_any (sym c.in-Some.is ∙ c.column.ensures)) (wrote_more c.put.ensures c.put_number.ensures)
