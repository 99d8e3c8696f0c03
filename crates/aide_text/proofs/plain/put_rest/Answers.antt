use Rattle.std.proofs.Common.{rules}
use Rattle.std.proofs.Common.{arith}
use Rattle.std.proofs.lemmas.Grind.{common_steps}
use Rattle.aide_text.specs.PenSheet.{on_sheet}
use Rattle.aide_text.proofs.PlainLemmas.{nothing_printed}
use Rattle.aide_text.proofs.Sheets.{wrote_as, wrote_nothing}
use Rattle.aide_text.proofs.plain.put_rest.Goals as goal

pub returns-then-not-is_empty : goal.returns-then-not-is_empty
returns-then-not-is_empty g c = search (rules, wrote_as)

pub returns-else-not-is_empty : goal.returns-else-not-is_empty
returns-else-not-is_empty g c =
    wrote_as (nothing_printed c.args.text.now (grind (arith, common_steps)))
    (wrote_nothing (on_sheet g.W.Sink c.args.out.now c.args.pen.now))
