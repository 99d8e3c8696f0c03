-- Facts about the faults of a run with a trusted pair.
use Rattle.std.specs.Prelude.{◌≡◌, ℕ, Result, Ok, Err, ⊤}
use Rattle.aide_merge.specs.RunFaults.{CountsWriteFault}
use Rattle.aide_merge.specs.declared.run_fault.RunFault.{RunFault}
use Rattle.aide_line_run.specs.declared.pair_fault.PairFault.{PairFault}
use Rattle.aide_line_run.specs.declared.pair_fault.PairFault.TheVariants.{Compared, Trusted}

-- a fact for each pair
abbrev pub OfEach : (RunFault → Type 0) → (RunFault → Type 0) → PairFault → Type 0
OfEach P Q (Compared fault) = P fault
OfEach P Q (Trusted fault) = Q fault

-- a fact about the faults of the compared pair
abbrev pub OfCompared : (RunFault → Type 0) → PairFault → Type 0
OfCompared P fault = OfEach P (λ other. ⊤) fault

-- the sink has failed once if the fault is a failed write, and otherwise not at all
abbrev pub CountsPairWrites : {X : Type 0} → (before after : ℕ) → Result X PairFault → Type 0
CountsPairWrites before after (Ok answer) = after ≡ before
CountsPairWrites before after (Err fault) =
    OfEach (CountsWriteFault before after) (λ other. after ≡ before) fault
