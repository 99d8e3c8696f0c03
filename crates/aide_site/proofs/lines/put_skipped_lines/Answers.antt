use Rattle.std.proofs.Common.{rules}
use Rattle.aide_site.specs.Lines.{skipped_lines}
use Rattle.aide_text.specs.PenSheet.{on_sheet}
use Rattle.aide_site.proofs.PutLemmas.{columns_to, next_column, no_columns}
use Rattle.aide_site.proofs.lines.put_skipped_lines.Goals as goal

pub loop-index-init : goal.loop-index-init
loop-index-init g c = no_columns c.args.side c.args.columns (on_sheet g.E.Sink c.args.err.now c.args.pen.now)

pub loop-index-preserved : goal.loop-index-preserved
loop-index-preserved g c =
    next_column c.args.side c.args.columns c.loop-index.index c.loop-index.invariant c.put_line_if_skipped.ensures

pub returns : goal.returns
unfolding skipped_lines
returns g c = columns_to c.args.side c.args.columns c.loop-index.index 64 (search rules) c.loop-index.invariant
