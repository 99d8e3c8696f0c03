-- Out of memory, and whether a cursor has returned it.
use Rattle.std.specs.Prelude.{◌≡◌, Bool, false, Result, Ok, Err}
use Rattle.aide_entry.specs.Cause.{is_memory}
use Rattle.aide_db.specs.declared.fault.DbFault.{DbFault}
use Rattle.aide_db.specs.declared.stage.Stage.{Stage}
use Rattle.aide_db.specs.declared.stage.Stage.TheVariants as stages
use Rattle.aide_db.specs.declared.judge.Judgement.{Judgement}
use Rattle.aide_db.specs.declared.judge.Judgement.TheVariants as judged
use Rattle.aide_db.specs.declared.step.Step.{Step}
use Rattle.aide_db.specs.declared.take_line.Taken.{Taken}
use Rattle.aide_db.specs.declared.take_line.Taken.TheVariants as takes

-- the answer is out of memory
abbrev pub wants_memory : Result Step DbFault → Bool
wants_memory (Ok step) = false
wants_memory (Err fault) = is_memory fault.kind

-- the cursor at this stage has returned out of memory
abbrev pub wanted_memory : Stage → Bool
wanted_memory (stages.Failed fault) = is_memory fault.kind
wanted_memory _ = false

-- a line is read without running out of memory
abbrev pub HasMemory : Taken → Type 0
HasMemory takes.NoMemory = ⊥
HasMemory _ = Unit {0}

-- one more line is read without running out of memory
abbrev pub GoesOn : Judgement → Type 0
GoesOn (judged.Fault kind) = is_memory kind ≡ false
GoesOn _ = Unit {0}
