-- The sections that have been written and those that are still to come are all.
use Rattle.std.proofs.Common.{◌≡◌, ℕ, List, [], false, drop}
use Rattle.std.specs.Prelude.{Some, Ok}
use Rattle.aide_attr.specs.declared.level.Level.TheVariants.{DatabaseAttributes}
use Rattle.std.specs.List.{flat_map, filter}
use Rattle.aide_db.specs.declared.side.Side.TheVariants.{Old, New}
use Rattle.aide_merge.specs.code.Merging.{pass_of}
use Rattle.aide_report.specs.code.GivenDigests.{GaveDigests}
use Rattle.aide_report.specs.code.Passes.{Passes}
use Rattle.aide_text.specs.PenSheet.{on_sheet}
use Rattle.aide_merge.specs.Seen.{seen}
use Rattle.aide_report_specs.specs.Sections.{is_there, section_text}
use Rattle.aide_text.specs.Section.{all_sections}
use Rattle.aide_attr.specs.Level.{reaches}
use Rattle.aide_text.specs.Sheet.{Writing, WritesFirst, WritesSome}
use Rattle.aide_report.proofs.SectionsLemmas.{passed}
use Rattle.aide_report.proofs.sections.put_sections.Given as goal

abbrev pub invariant-loop-section : goal.invariant-loop-section
invariant-loop-section g l = record {
  passes : Passes {T = Unit {0}} l.plan.limits (passed
      (is_there l.plan.task.now.options l.plan.finding.now.counts) all_sections l.section-index)
      (seen g.S.Sources l.fn.sources) (seen g.S.Sources l.sources) l.fn.desk l.desk ⊥ (Ok tt);
  writes_on : l.pen.failed ≡ false;
  writes : (old new : List ℕ) → g.S.Sources.bytes_of l.fn.sources Old ≡ Some old
      → g.S.Sources.bytes_of l.fn.sources New ≡ Some new
      → Writing (flat_map (section_text l.plan.task.now.options (pass_of old new))
      (filter (is_there l.plan.task.now.options l.plan.finding.now.counts) all_sections))
      (flat_map (section_text l.plan.task.now.options (pass_of old new))
      (filter (is_there l.plan.task.now.options l.plan.finding.now.counts) (drop l.section-index all_sections)))
      (on_sheet g.W.Sink l.fn.out l.fn.pen) (on_sheet g.W.Sink l.out l.pen);
  some : WritesSome (on_sheet g.W.Sink l.fn.out l.fn.pen) (on_sheet g.W.Sink l.out l.pen);
  first : WritesFirst [] (reaches l.plan.task.now.options.level DatabaseAttributes) (on_sheet g.W.Sink l.fn.out l.fn.pen)
      (on_sheet g.W.Sink l.out l.pen);
  gave : GaveDigests (g.S.Sources.bytes_at l.fn.sources) (g.S.Sources.openings l.fn.sources) (g.S.Sources.openings l.sources)
      l.plan.finding.now.digests;
}
