-- A run over what stands at both sides, where a side may not be there.
use Rattle.std.specs.Prelude.{◌≡◌, ℕ, true, false, Some, Result, Ok, Err, List, [], Bool, Option, None}
use Rattle.std.proofs.Common.{refl, sym, ◌∙◌, inr}
use Rattle.aide_db.specs.declared.fault.DbFault.{DbFault}
use Rattle.aide_entry.specs.declared.fault_kind.DbFaultKind.{DbFaultKind}
use Rattle.aide_db.specs.declared.limits.Limits.{Limits}
use Rattle.aide_db.specs.declared.side.Side.{Side}
use Rattle.aide_db.specs.declared.side.Side.TheVariants.{Old, New}
use Rattle.aide_merge.specs.RightAnswer.{Report, RunsBy, TellsSide, RunsOverBy, IsHindered, run_answer, Causes}
use Rattle.aide_report_specs.specs.Runs.{EndsEarly, EndsWell}
use Rattle.aide_db.specs.Database.{IsSound}
use Rattle.aide_entry.specs.Cause.{is_outside}
use Rattle.aide_entry.specs.declared.fault_kind.DbFaultKind.TheVariants.{Memory, Read}
use Rattle.aide_report_specs.specs.Missing.{SendsFront, SendsWhole}
use Rattle.aide_report.specs.code.Passes.{IsPassFault}
use Rattle.aide_merge.specs.RunFaults.{IsCaused, IsLater}
use Rattle.aide_merge.specs.Seen.{Seen}
use Rattle.aide_merge.specs.code.ReadFaults.{IsReadFault}
use Rattle.aide_text.specs.Failures.{Rose}
use Rattle.aide_merge.specs.declared.outcome.Outcome.{Outcome}
use Rattle.aide_merge.specs.declared.run_fault.RunFault.{RunFault}
use Rattle.aide_merge.specs.declared.run_fault.RunFault.TheVariants.{Open, Database, Changed, Write}
use Rattle.aide_text.proofs.Sending.{Appends-nothing}
use Rattle.aide_merge.proofs.AnswerLemmas.{over_texts, true_false}
use Rattle.aide_merge.proofs.ReadFaultLemmas.{there_at}
use Rattle.aide_report.proofs.FaultLemmas.{right_later}

-- ---- why a run was given up

outside_hinders : (kind : DbFaultKind) (sources : Type 0) → (kind ≡ Read → sources) → is_outside kind ≡ true
    → Causes kind sources ⊥
outside_hinders Memory sources read outside = tt
outside_hinders Read sources read outside = read refl
outside_hinders kind sources read outside = true_false (sym outside)

-- any reading behind the first ones, where both sides are there and sound
later_over : (limits : Limits) (bytes_of : Side → Option (List ℕ)) (is_missing : Side → Bool) (old new : Option (List ℕ))
    (sources sink : Type 0) (fault : RunFault)
    → TellsSide (bytes_of Old) (is_missing Old) old → TellsSide (bytes_of New) (is_missing New) new
    → ((side : Side) → is_missing side ≡ false)
    → ((side : Side) (text : List ℕ) → bytes_of side ≡ Some text → IsSound limits text)
    → IsLater limits bytes_of fault → IsCaused sources sink fault → IsHindered old new sources sink fault
later_over limits bytes_of is_missing None new sources sink fault told told_new there sound later caused =
    absurd (true_false (sym told ∙ there Old))
later_over limits bytes_of is_missing (Some old) None sources sink fault told told_new there sound later caused =
    absurd (true_false (sym told_new ∙ there New))
later_over limits bytes_of is_missing (Some old) (Some new) sources sink (Open side) told told_new there sound later caused =
    (there_at old new side, caused)
later_over limits bytes_of is_missing (Some old) (Some new) sources sink (Database fault) told told_new there sound later caused =
    (there_at old new fault.side, outside_hinders fault.kind sources caused later)
later_over limits bytes_of is_missing (Some old) (Some new) sources sink (Changed Old) told told_new there sound later caused =
    later old told (sound Old old told)
later_over limits bytes_of is_missing (Some old) (Some new) sources sink (Changed New) told told_new there sound later caused =
    later new told_new (sound New new told_new)
later_over limits bytes_of is_missing (Some old) (Some new) sources sink (Write written) told told_new there sound later caused =
    caused

-- a fault of a pass behind the first readings
pub fault_of_pass : {limits : Limits} {a b : Seen} {room : ℕ} {sink : Type 0} {fault : RunFault}
    → ((side : Side) → a.is_missing side ≡ false)
    → ((side : Side) (text : List ℕ) → a.bytes_of side ≡ Some text → IsSound limits text)
    → IsPassFault limits a b room sink fault → IsReadFault limits a b room sink fault
fault_of_pass {limits} {a} {b} {room} {sink} {fault} there sound is = record {
  right = right_later limits a.bytes_of sound fault is.later;
  over = λ old new told_old told_new. inr (later_over limits a.bytes_of a.is_missing old new (Rose a.failures b.failures) sink fault
      told_old told_new there sound is.later is.caused);
  refused = is.refused;
  not_given = is.not_given;
  caused = is.caused;
  reliable = is.reliable;
  memory = is.memory;
}

-- of both sides, from each
pub both_there : (is_missing : Side → Bool) → is_missing Old ≡ false → is_missing New ≡ false → (side : Side)
    → is_missing side ≡ false
both_there is_missing old new Old = old
both_there is_missing old new New = new

-- ---- what went out

whole_given : (run : Result Report DbFault) (outcome : Outcome) (before after : Option (List ℕ))
    → EndsWell run outcome before after → SendsWhole (run_answer run) outcome before after
whole_given (Ok report) outcome before after well = well
whole_given (Err fault) outcome before after well = well

front_given : (run : Result Report DbFault) (before after : Option (List ℕ)) → EndsEarly run before after
    → SendsFront (run_answer run) before after
front_given (Ok report) before after early = early
front_given (Err fault) before after early = early

pub whole_by : (limits : Limits) (over : List ℕ → List ℕ → Report) (bytes_of : Side → Option (List ℕ)) (is_missing : Side → Bool)
    (old new : Option (List ℕ)) (outcome : Outcome) (before after : Option (List ℕ))
    → TellsSide (bytes_of Old) (is_missing Old) old → TellsSide (bytes_of New) (is_missing New) new
    → ((side : Side) → is_missing side ≡ false)
    → ((old_text new_text : List ℕ) → bytes_of Old ≡ Some old_text → bytes_of New ≡ Some new_text
    → (run : Result Report DbFault) → RunsBy limits over old_text new_text run → EndsWell run outcome before after)
    → (r : Result Report RunFault) → RunsOverBy limits over old new r → SendsWhole r outcome before after
whole_by limits over bytes_of is_missing old new outcome before after told told_new there all =
    over_texts limits over bytes_of is_missing old new (λ r. SendsWhole r outcome before after) told told_new there
    (λ old_text new_text is_old is_new run runs. whole_given run outcome before after (all old_text new_text is_old is_new run runs))

pub front_by : (limits : Limits) (over : List ℕ → List ℕ → Report) (bytes_of : Side → Option (List ℕ)) (is_missing : Side → Bool)
    (old new : Option (List ℕ)) (before after : Option (List ℕ))
    → TellsSide (bytes_of Old) (is_missing Old) old → TellsSide (bytes_of New) (is_missing New) new
    → ((side : Side) → is_missing side ≡ false)
    → ((old_text new_text : List ℕ) → bytes_of Old ≡ Some old_text → bytes_of New ≡ Some new_text
    → (run : Result Report DbFault) → RunsBy limits over old_text new_text run → EndsEarly run before after)
    → (r : Result Report RunFault) → RunsOverBy limits over old new r → SendsFront r before after
front_by limits over bytes_of is_missing old new before after told told_new there all =
    over_texts limits over bytes_of is_missing old new (λ r. SendsFront r before after) told told_new there
    (λ old_text new_text is_old is_new run runs. front_given run before after (all old_text new_text is_old is_new run runs))

-- nothing is a front of every answer
pub nothing_front : (r : Result Report RunFault) (bytes : Option (List ℕ)) → SendsFront r bytes bytes
nothing_front (Ok report) bytes = record { front = []; rest = report.text; whole = refl; bytes = Appends-nothing bytes }
nothing_front (Err right) bytes = Appends-nothing bytes
