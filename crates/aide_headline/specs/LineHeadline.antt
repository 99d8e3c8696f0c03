-- The right answer over four texts.
use Rattle.std.specs.Prelude.{ℕ, ◌≡◌, ◌⊎◌, List, Result, Ok, Err}
use Rattle.aide_db.specs.Database.{IsSound}
use Rattle.aide_db.specs.declared.fault.DbFault.{DbFault}
use Rattle.aide_db.specs.declared.limits.Limits.{Limits}
use Rattle.aide_db.specs.declared.side.Side.TheVariants.{Old, New}
use Rattle.aide_merge.specs.Asked.{Asked}
use Rattle.aide_merge.specs.RightAnswer.{IsFirstFaultOf, Report}
use Rattle.aide_merge.specs.declared.run_fault.RunFault.TheVariants.{Database}
use Rattle.aide_line_run.specs.Lines.{lines_of_texts}
use Rattle.aide_line_run.specs.Listed.{ListRead}
use Rattle.aide_line_run.specs.declared.pair_fault.PairFault.{PairFault}
use Rattle.aide_line_run.specs.declared.pair_fault.PairFault.TheVariants.{Compared, Trusted}

-- the fault is the first one of two texts: a fault of the old text comes before one of the new text
abbrev pub IsFirstOfPair : Limits → (old new : List ℕ) → DbFault → Type 0
IsFirstOfPair limits old new fault = IsFirstFaultOf limits Old old fault
    ⊎ (IsSound limits old × IsFirstFaultOf limits New new fault)

-- The right answer over four texts and a list: the lines over the four maps if all texts are sound,
-- and otherwise the first fault, in the order old, new, trusted old, trusted new.
abbrev pub IsRightLineAnswer : Limits → ListRead → (asked trusted_asked : Asked)
    → (old new trusted_old trusted_new : List ℕ) → Result Report PairFault
    → Type 0
IsRightLineAnswer limits list asked trusted_asked old new trusted_old trusted_new (Ok report) =
    IsSound limits old × IsSound limits new
    × IsSound limits trusted_old × IsSound limits trusted_new
    × (report ≡ lines_of_texts list asked trusted_asked old new trusted_old trusted_new)
IsRightLineAnswer limits list asked trusted_asked old new trusted_old trusted_new
    (Err (Compared fault)) =
    (first : DbFault) × (fault ≡ Database first) × IsFirstOfPair limits old new first
IsRightLineAnswer limits list asked trusted_asked old new trusted_old trusted_new
    (Err (Trusted fault)) =
    IsSound limits old × IsSound limits new
    × ((first : DbFault) × (fault ≡ Database first)
    × IsFirstOfPair limits trusted_old trusted_new first)
