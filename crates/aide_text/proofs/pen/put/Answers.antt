use Rattle.std.proofs.Common.{arith, refl, true}
use Rattle.aide_text.specs.PenSheet.{on_sheet}
use Rattle.aide_text.proofs.Sheets.{wrote_cut}
use Rattle.aide_text.proofs.pen.put.Goals as goal

pub returns-in-Err : goal.returns-in-Err
returns-in-Err g c =
    wrote_cut c.args.bytes.now (on_sheet g.W.Sink c.args.out.now c.args.pen.now)
    (on_sheet g.W.Sink c.emit.new.out record { sent = c.saturating_add-pen-in-Err.result; failed = true })
    c.in-Err.n c.if-pen.false refl c.in-Err.ensures.fewer c.in-Err.ensures.cut c.in-Err.ensures.fault
    (omega (arith, c.saturating_add-pen-in-Err.ensures)) c.emit.ensures.flushes
