use Rattle.std.proofs.Common.{refl, rules}
use Rattle.aide_merge.specs.code.Merging.{pass_of}
use Rattle.aide_report_specs.specs.Sections.{section_text, entries_text}
use Rattle.aide_text.specs.Section.{contents_of}
use Rattle.aide_report.proofs.EntriesLemmas.{each_entry}
use Rattle.aide_report.proofs.PassLemmas.{passes_broken, passes_none, pen_then, writes_behind}
use Rattle.aide_report.proofs.PassLemmas.{writes_same}
use Rattle.aide_text.proofs.Sheets.{part_of_wrote, some_of}
use Rattle.aide_report.proofs.sections.section_pass.Goals as goal

pub returns-then-pen-clause-passes : goal.returns-then-pen-clause-passes
returns-then-pen-clause-passes g c = search (rules, passes_broken, passes_none)

pub returns-then-pen-clause-writes : goal.returns-then-pen-clause-writes
unfolding section_text
returns-then-pen-clause-writes g c old new told_old told_new =
    part_of_wrote (entries_text c.args.plan.now.task.now.options (contents_of c.args.section) (pass_of old new)) c.put_section_head.ensures

pub returns-clause-writes : goal.returns-clause-writes
unfolding section_text
returns-clause-writes g c old new told_old told_new = search (rules, writes_behind, writes_same, each_entry)

pub returns-clause-pen : goal.returns-clause-pen
returns-clause-pen g c = pen_then (some_of c.put_section_head.ensures) c.entries_pass.ensures.pen

pub returns-then-pen-clause-pen : goal.returns-then-pen-clause-pen
returns-then-pen-clause-pen g c = record { some = some_of c.put_section_head.ensures; writes_on = tt; written = (c.if-pen.true, refl) }
