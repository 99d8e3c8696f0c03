use Rattle.std.proofs.Common.{ap, ◌∙◌}
use Rattle.aide_text.specs.Layout.{path_line}
use Rattle.aide_report_specs.specs.Report.{origin_lines}
use Rattle.aide_text.proofs.Sheets.{wrote_more, wrote_as}
use Rattle.aide_report.proofs.databases.put_origin.Goals as goal

pub returns : goal.returns
unfolding origin_lines
returns g c =
    wrote_more (wrote_as (ap (λ path. path_line c.args.word.now path) (c.of.ensures ∙ c.as_bytes.ensures.value)) c.put_path_line.ensures)
    c.put_digest.ensures
