-- A run in which nothing fails ends with the right answer.
use Rattle.std.specs.Prelude.{ℕ, ◌≡◌, Option, List, Result, Ok, Err, Some, IfErr, false}
use Rattle.std.proofs.Common.{sym, inl, inr, arith}
use Rattle.aide_entry.specs.Cause.{is_memory}
use Rattle.aide_entry.specs.declared.fault_kind.DbFaultKind.{DbFaultKind}
use Rattle.aide_entry.specs.declared.fault_kind.DbFaultKind.TheVariants.{Read, Memory}
use Rattle.aide_db.specs.declared.fault.DbFault.{DbFault}
use Rattle.aide_report_specs.specs.Missing.{EndsOver}
use Rattle.aide_merge.specs.Room.{IsNotOfMemory}
use Rattle.aide_merge.specs.RightAnswer.{Causes, IsHindered, Report, run_answer}
use Rattle.aide_text.specs.Failures.{Rose}
use Rattle.aide_merge.specs.declared.outcome.Outcome.{Outcome}
use Rattle.aide_merge.specs.declared.run_fault.RunFault.{RunFault}
use Rattle.aide_merge.specs.declared.run_fault.RunFault.TheVariants.{Open, Database, Changed, Write}
use Rattle.aide_site.specs.Put.{HasNoFailure}
use Rattle.aide_headline.specs.Headline.{EndsAs}

-- A count that stayed the same, and can still rise, did not rise.
no_rise : (before after : ℕ) → HasNoFailure before after → Rose before after → ⊥
no_rise before after none rose = let risen = rose none.1 in omega (arith, none.0, risen)

no_cause : (kind : DbFaultKind) (sources : Type 0) → (sources → ⊥) → is_memory kind ≡ false → Causes kind sources ⊥ → ⊥
no_cause Memory sources none room cause = cc
no_cause Read sources none room cause = none cause
no_cause kind sources none room cause = cause

module _ (old new : List ℕ) {sources_before sources_after sink_before sink_after : ℕ}
    (sources : HasNoFailure sources_before sources_after) (sink : HasNoFailure sink_before sink_after) where
  abbrev Hinders : RunFault → Type 0
  Hinders fault = IsHindered (Some old) (Some new) (Rose sources_before sources_after) (Rose sink_before sink_after) fault

  -- If no device fails and memory does not run out, nothing keeps a run over two texts from its answer.
  nothing_hinders : (fault : RunFault) → IsNotOfMemory fault → Hinders fault → ⊥
  nothing_hinders (Open side) room hinders = no_rise _ _ sources hinders.1
  nothing_hinders (Database fault) room hinders =
      no_cause fault.kind (Rose sources_before sources_after) (no_rise _ _ sources) room hinders.1
  nothing_hinders (Changed side) room hinders = hinders
  nothing_hinders (Write written) room hinders = no_rise _ _ sink hinders

  -- A run over two texts that ends as the clause `over` of `run` says ends with the right answer, if no device fails and
  -- memory does not run out.
  pub ends_with_the_right_answer : (right : Result Report DbFault) (result : Result Outcome RunFault)
      (before after : Option (List ℕ)) → IfErr result IsNotOfMemory
      → EndsOver (run_answer right) Hinders result before after
      → EndsAs right result before after
  ends_with_the_right_answer (Ok report) (Ok outcome) before after room well = (sym well.0, well.1)
  ends_with_the_right_answer (Ok report) (Err fault) before after room hindered = nothing_hinders fault room hindered.0
  ends_with_the_right_answer (Err right) (Ok outcome) before after room well = well
  ends_with_the_right_answer (Err right) (Err fault) before after room early = (
    elim early.0 [
      | inl same ↦ same
      | inr hinders ↦ absurd (nothing_hinders fault room hinders)
    ],
    early.1,
  )
