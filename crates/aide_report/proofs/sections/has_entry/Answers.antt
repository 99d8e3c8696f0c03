use Rattle.std.proofs.Common.{ap, sym}
use Rattle.aide_report_specs.specs.Sections.{has_entry}
use Rattle.aide_report.proofs.sections.has_entry.Goals as goal

pub returns-in-Detailed : goal.returns-in-Detailed
returns-in-Detailed c = ap (has_entry c.args.counts.now) (sym c.in-Detailed.is)
