use Rattle.std.proofs.Common.{rules}
use Rattle.aide_report_specs.specs.Entries.{shown_text}
use Rattle.aide_text.proofs.Sheets.{wrote_as, wrote_nothing}
use Rattle.aide_report.proofs.details.put_if_shown.Goals as goal

pub returns-else-has : goal.returns-else-has
unfolding shown_text
returns-else-has g c = search (rules, wrote_as, wrote_nothing)
