use Rattle.aide_text.specs.Layout.{empty_line}
use Rattle.aide_report_specs.specs.Report.{databases_of}
use Rattle.aide_text.proofs.Sheets.{wrote_more}
use Rattle.aide_report.proofs.databases.put_origins.Goals as goal

pub returns : goal.returns
unfolding databases_of empty_line
returns g c = wrote_more c.put_databases_title.ensures (wrote_more c.put_origin.ensures c.put_origin-2.ensures)
