use Rattle.aide_text.specs.Layout.{empty_line}
use Rattle.aide_report_specs.specs.Report.{databases_title}
use Rattle.aide_text.proofs.Sheets.{wrote_more}
use Rattle.aide_report.proofs.databases.put_databases_title.Goals as goal

pub returns : goal.returns
unfolding databases_title empty_line
returns g c = wrote_more c.put_titled.ensures c.put_newline.ensures
