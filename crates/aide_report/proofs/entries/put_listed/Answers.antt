use Rattle.std.proofs.Common.{sym}
use Rattle.aide_merge.specs.code.ChangeView.{change_of}
use Rattle.aide_text.specs.PenSheet.{on_sheet}
use Rattle.aide_merge.specs.Said.{all_listed}
use Rattle.aide_report.proofs.EntriesLemmas.{text_of_one, text_of_none}
use Rattle.aide_text.proofs.Sheets.{wrote_as, wrote_nothing}
use Rattle.aide_report.proofs.entries.put_listed.Goals as goal

pub returns-in-Some : goal.returns-in-Some
returns-in-Some g c =
    wrote_as (text_of_one c.args.options.now all_listed (change_of c.args.change) (sym c.in-Some.ensures.listed)) c.put_line.ensures

pub returns-in_default : goal.returns-in_default
returns-in_default g c =
    wrote_as (text_of_none c.args.options.now all_listed (change_of c.args.change) (sym c.in_default.ensures.listed))
    (wrote_nothing (on_sheet g.W.Sink c.args.out.now c.args.pen.now))
