-- What of a text comes before its first fault.
use Rattle.std.specs.Prelude.{◌≡◌, ◌+◌, ◌⊎◌, ℕ, List, [], ◌++◌, length}
use Rattle.aide_db.specs.Database.{IsFirstFault, IsSound}
use Rattle.aide_db.specs.declared.limits.Limits.{Limits}
use Rattle.aide_fields.specs.Text.{lines, unfinished_line}
use Rattle.aide_entry.specs.declared.fault_kind.DbFaultKind.{DbFaultKind}

-- the lines of a text before its first fault: the fault is at the line behind them
pub record EndsAtFault (limits : Limits) (text front : List ℕ) : Type 0 where
  pub number : ℕ
  pub kind : DbFaultKind
  pub fault : IsFirstFault limits text number kind
  pub number_is : number ≡ length (lines front) + 1
  pub more : List ℕ
  pub parts : text ≡ front ++ more
  -- they are whole lines, or the whole text
  pub whole : (unfinished_line front ≡ []) ⊎ (more ≡ [])

-- all of a sound text, and of any other one the lines before its first fault
abbrev pub IsBeforeFault : Limits → (text front : List ℕ) → Type 0
IsBeforeFault limits text front =
    (IsSound limits text × (front ≡ text)) ⊎ EndsAtFault limits text front

-- the texts of four databases
pub record FourTexts : Type 0 where
  pub old : List ℕ
  pub new : List ℕ
  pub trusted_old : List ℕ
  pub trusted_new : List ℕ

-- what of each text comes before its first fault
pub record AreBeforeFaults (limits : Limits) (texts fronts : FourTexts) : Type 0 where
  pub of_old : IsBeforeFault limits texts.old fronts.old
  pub of_new : IsBeforeFault limits texts.new fronts.new
  pub of_trusted_old : IsBeforeFault limits texts.trusted_old fronts.trusted_old
  pub of_trusted_new : IsBeforeFault limits texts.trusted_new fronts.trusted_new
