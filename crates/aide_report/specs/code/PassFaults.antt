-- Why a pass ended.
use Rattle.std.specs.Prelude.{ℕ, Result, Ok, Err, List, ◌≡◌, true, false}
use Rattle.aide_report.specs.code.LaterFault.{later_of}
use Rattle.aide_text.specs.Sheet.{Sheet, Wrote, WritesPart}
use Rattle.aide_report.specs.declared.change_writer.PassFault.{PassFault}
use Rattle.aide_report.specs.declared.change_writer.PassFault.TheVariants.{Database, Write}
use Rattle.aide_merge.specs.declared.run_fault.RunFault.{RunFault}
use Rattle.aide_merge.specs.declared.run_fault.RunFault.TheVariants.{Write as WriteFault}
use Rattle.aide_db.specs.DeskView.{DeskView}
use Rattle.aide_db.specs.declared.reel.Reel.{Ghosts as Reels}
use Rattle.aide_text.specs.declared.pen.Pen.{Pen}
use Rattle.aide_merge.specs.declared.merge.Merge.{Merge}
use Rattle.aide_merge.specs.code.MergeCalls.{IsMergeFault}

-- the fault that the run returns, with the number of bytes that have been written
abbrev pub pass_fault_of : PassFault → ℕ → RunFault
pass_fault_of (Database fault) sent = later_of fault
pass_fault_of Write sent = WriteFault sent

-- after `Ok` all of the text has been written, and after a fault the beginning of it
abbrev pub Writes : {T E : Type 0} → Result T E → List ℕ → Sheet → Sheet → Type 0
Writes (Ok answer) text a b = Wrote text a b
Writes (Err fault) text a b = WritesPart text a b

-- Why a pass stopped: a fault of the merge while every write succeeded, or a failed write.
abbrev pub IsStopOf : {R : Type 0} → Reels R → Merge R → Merge R → DeskView → Pen → PassFault
    → Type 0
IsStopOf r m n d pen (Database fault) = (pen.failed ≡ false) × IsMergeFault r m n d fault
IsStopOf r m n d pen Write = pen.failed ≡ true
