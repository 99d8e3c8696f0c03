-- What a fault of a run means, by the reading that it ended.
use Rattle.std.specs.Prelude.{◌≡◌, ◌⊎◌, ℕ, Bool, true, false, Option, Some, None, IsSome, Result, Err, List}
use Rattle.std.proofs.Common.{refl, sym, subst, inl, inr, ◌∙◌}
use Rattle.aide_db.specs.Database.{IsSound}
use Rattle.aide_db.specs.Side.{by_side}
use Rattle.aide_db.specs.declared.fault.DbFault.{DbFault}
use Rattle.aide_db.specs.declared.limits.Limits.{Limits}
use Rattle.aide_db.specs.declared.side.Side.{Side}
use Rattle.aide_db.specs.declared.side.Side.TheVariants.{Old, New}
use Rattle.aide_entry.specs.Cause.{is_outside}
use Rattle.aide_entry.specs.declared.fault_kind.DbFaultKind.{DbFaultKind}
use Rattle.aide_entry.specs.declared.fault_kind.DbFaultKind.TheVariants.{Memory, Read}
use Rattle.aide_text.specs.Failures.{Rose}
use Rattle.aide_merge.specs.Openings.{IsRefusedThere}
use Rattle.aide_merge.specs.RightAnswer.{Causes, HasCause, IsFirstFaultOf, IsHindered, RunsBy, TellsSide}
use Rattle.aide_merge.specs.RunFaults.{IsCaused, IsFirst}
use Rattle.aide_merge.specs.Seen.{Seen}
use Rattle.aide_merge.specs.code.ReadFaults.{IsReadFault, IsReadingFault, IsRightFault}
use Rattle.aide_merge.specs.declared.run_fault.RunFault.{RunFault}
use Rattle.aide_merge.specs.declared.run_fault.RunFault.TheVariants.{Open, Database, Changed, Write}
use Rattle.aide_merge.proofs.AnswerLemmas.{true_false}
use Rattle.aide_merge.proofs.FaultLemmas.{right_first}
use Rattle.aide_merge.proofs.FirstFaults.{RunsBy-unique}
use Rattle.aide_merge.proofs.PenLemmas.{caused_as}

-- ---- the right answer, or a hindrance

-- a fault of a database is of its text, or hinders the run
of_text_or_hindered : (kind : DbFaultKind) (sources first : Type 0) → (kind ≡ Read → sources)
    → (is_outside kind ≡ false → first) → first ⊎ Causes kind sources ⊥
of_text_or_hindered Memory sources first read inside = inr tt
of_text_or_hindered Read sources first read inside = inr (read refl)
of_text_or_hindered kind sources first read inside = inl (inside refl)

-- where both sides are there, each is
pub there_at : (old new : List ℕ) (side : Side) → IsSome (by_side (Some old) (Some new) side)
there_at old new Old = refl
there_at old new New = refl

module _ (limits : Limits) (bytes_of : Side → Option (List ℕ)) (is_missing : Side → Bool) where
  -- the first reading of the old side
  first_over : (old new : Option (List ℕ)) (sources sink : Type 0) (fault : RunFault)
      → TellsSide (bytes_of Old) (is_missing Old) old → IsFirst limits bytes_of Old fault → IsCaused sources sink fault
      → (is_missing Old ≡ true → fault ≡ Open Old) → IsRightFault limits old new fault ⊎ IsHindered old new sources sink fault
  first_over None new sources sink fault told first caused gone = inl (gone told)
  first_over (Some old) new sources sink (Open side) told first caused gone =
      inr (subst (λ (s : Side). IsSome (by_side (Some old) new s)) (sym first) refl, caused)
  first_over (Some old) new sources sink (Database fault) told first caused gone =
      elim (of_text_or_hindered fault.kind sources (IsFirstFaultOf limits Old old fault) caused
      (λ inside. (first.0, first.1 old told inside))) [
        | inl bad ↦ inl (inl bad)
        | inr hinders ↦ inr (subst (λ (s : Side). IsSome (by_side (Some old) new s)) (sym first.0) refl, hinders)
      ]
  first_over (Some old) new sources sink _ told first caused gone = absurd first

  -- the first reading of the new side, behind an old one that is sound
  second_over : (old new : Option (List ℕ)) (sources sink : Type 0) (fault : RunFault)
      → TellsSide (bytes_of Old) (is_missing Old) old → TellsSide (bytes_of New) (is_missing New) new
      → is_missing Old ≡ false → ((text : List ℕ) → bytes_of Old ≡ Some text → IsSound limits text)
      → IsFirst limits bytes_of New fault → IsCaused sources sink fault → (is_missing New ≡ true → fault ≡ Open New)
      → IsRightFault limits old new fault ⊎ IsHindered old new sources sink fault
  second_over None new sources sink fault told told_new there sound first caused gone = absurd (true_false (sym told ∙ there))
  second_over (Some old) None sources sink fault told told_new there sound first caused gone =
      inl (inr (sound old told, gone told_new))
  second_over (Some old) (Some new) sources sink (Open side) told told_new there sound first caused gone =
      inr (there_at old new side, caused)
  second_over (Some old) (Some new) sources sink (Database fault) told told_new there sound first caused gone =
      elim (of_text_or_hindered fault.kind sources (IsFirstFaultOf limits New new fault) caused
      (λ inside. (first.0, first.1 new told_new inside))) [
        | inl bad ↦ inl (inr (sound old told, bad))
        | inr hinders ↦ inr (there_at old new fault.side, hinders)
      ]
  second_over (Some old) (Some new) sources sink _ told told_new there sound first caused gone = absurd first

-- ---- a fault of a first reading

-- of the old side
pub fault_of_old : {limits : Limits} {a b : Seen} {room : ℕ} {sink : Type 0} {fault : RunFault}
    → IsRefusedThere a.openings b.openings fault → IsReadingFault limits a b Old room fault → IsReadFault limits a b room sink fault
fault_of_old {limits} {a} {b} {room} {sink} {fault} refused is =
    let sources = Rose a.failures b.failures in
    let caused = caused_as sources ⊥ sink fault (λ none. absurd none) is.caused in
    record {
      right = right_first limits a.bytes_of Old fault is.first;
      over = λ old new told_old told_new.
          first_over limits a.bytes_of a.is_missing old new sources sink fault told_old is.first caused is.missing;
      refused = refused;
      not_given = is.not_given;
      caused = caused;
      reliable = is.reliable;
      memory = is.memory;
    }

-- of the new side, behind an old one that is sound
pub fault_of_new : {limits : Limits} {a b : Seen} {room : ℕ} {sink : Type 0} {fault : RunFault}
    → ((text : List ℕ) → a.bytes_of Old ≡ Some text → IsSound limits text) → a.is_missing Old ≡ false
    → IsRefusedThere a.openings b.openings fault → IsReadingFault limits a b New room fault → IsReadFault limits a b room sink fault
fault_of_new {limits} {a} {b} {room} {sink} {fault} sound there refused is =
    let sources = Rose a.failures b.failures in
    let caused = caused_as sources ⊥ sink fault (λ none. absurd none) is.caused in
    record {
      right = right_first limits a.bytes_of New fault is.first;
      over = λ old new told_old told_new. second_over limits a.bytes_of a.is_missing old new sources sink fault
          told_old told_new there sound is.first caused is.missing;
      refused = refused;
      not_given = is.not_given;
      caused = caused;
      reliable = is.reliable;
      memory = is.memory;
    }

-- ---- another sink

hindered_as : (old new : Option (List ℕ)) (sources sink next : Type 0) (fault : RunFault) → (sink → next)
    → IsHindered old new sources sink fault → IsHindered old new sources next fault
hindered_as old new sources sink next (Write written) f h = f h
hindered_as old new sources sink next _ f h = h

pub fault_as : {limits : Limits} {a b : Seen} {room : ℕ} {sink next : Type 0} {fault : RunFault} → (sink → next)
    → IsReadFault limits a b room sink fault → IsReadFault limits a b room next fault
fault_as {a = a} {b = b} {sink = sink} {next = next} {fault = fault} f is =
    let sources = Rose a.failures b.failures in
    record {
      right = is.right;
      over = λ old new told_old told_new. elim (is.over old new told_old told_new) [
        | inl right ↦ inl right
        | inr h ↦ inr (hindered_as old new sources sink next fault f h)
      ];
      refused = is.refused;
      not_given = is.not_given;
      caused = caused_as sources sink next fault f is.caused;
      reliable = is.reliable;
      memory = is.memory;
    }

-- ---- why a run fails, whatever it is to write

-- a fault of a text does not hinder the run
pub inside_is_no_hindrance : (kind : DbFaultKind) (sources : Type 0) → is_outside kind ≡ false → Causes kind sources ⊥ → ⊥
inside_is_no_hindrance Memory sources inside hinders = cc
inside_is_no_hindrance Read sources inside hinders = cc
inside_is_no_hindrance kind sources inside hinders = hinders

causes_of : (rose first : Type 0) (kind : DbFaultKind) → (kind ≡ Read → rose) → (is_outside kind ≡ false → first)
    → Causes kind rose first
causes_of rose first Memory read inside = tt
causes_of rose first Read read inside = read refl
causes_of rose first kind read inside = inside refl

pub cause_by : {X : Type 0} {limits : Limits} {a b : Seen} {room : ℕ} {sink : Type 0} (over : List ℕ → List ℕ → X) (fault : RunFault)
    → IsReadFault limits a b room sink fault
    → HasCause fault (Rose a.failures b.failures) sink
    (λ first. (old new : List ℕ) → a.bytes_of Old ≡ Some old → a.bytes_of New ≡ Some new → (r : Result X DbFault)
    → RunsBy limits over old new r → r ≡ Err first)
    (λ side. (text : List ℕ) → a.bytes_of side ≡ Some text → ⊥)
cause_by {limits = limits} {a = a} {b = b} over (Database fault) is =
    causes_of (Rose a.failures b.failures) _ fault.kind is.caused
    (λ inside old new told_old told_new r runs. elim (is.over (Some old) (Some new) told_old told_new) [
      | inl right ↦ RunsBy-unique limits over old new r (Err fault) runs right
      | inr h ↦ absurd (inside_is_no_hindrance fault.kind (Rose a.failures b.failures) inside h.1)
    ])
cause_by over (Changed side) is = is.right
cause_by over _ is = is.caused
