-- What is at both sides has a right answer, and only one. A fault of a run is that answer, or keeps the run from it.
use Rattle.std.specs.Prelude.{◌≡◌, ◌≤◌, ◌⊎◌, ℕ, Option, Some, None, Result, Ok, Err, List}
use Rattle.std.proofs.Common.{refl, sym, subst, ap, ◌∙◌, inl, inr}
use Rattle.aide_db.specs.Database.{IsSound}
use Rattle.aide_db.specs.declared.fault.DbFault.{DbFault}
use Rattle.aide_db.specs.declared.limits.Limits.{Limits}
use Rattle.aide_db.specs.declared.side.Side.TheVariants.{Old, New}
use Rattle.aide_db.proofs.FaultExists.{sound_or_fault}
use Rattle.aide_db.proofs.MapLaws.{first_fault_unsound}
use Rattle.aide_merge.specs.RightAnswer.{RunsOverBy, StopsFor, run_answer, RunsBy, IsFirstFaultOf}
use Rattle.aide_merge.specs.code.ReadFaults.{IsFaultAt, IsRightFault}
use Rattle.aide_merge.specs.declared.run_fault.RunFault.{RunFault}
use Rattle.aide_merge.specs.declared.run_fault.RunFault.TheVariants.{Open, Database}
use Rattle.aide_merge.proofs.FirstFaults.{same_fault, RunsBy-unique}

stops_hindered : {X : Type 0} (r : Result X RunFault) (hindered : RunFault → Type 0) (fault : RunFault) → hindered fault
    → StopsFor r hindered fault
stops_hindered (Ok made) hindered fault h = h
stops_hindered (Err right) hindered fault h = inr h

module _ {X : Type 0} (limits : Limits) (over : List ℕ → List ℕ → X) where
  -- ---- there is an answer

  pub RunsBy-exists : (old new : List ℕ) → 14 ≤ limits.line → (run : Result X DbFault) × RunsBy limits over old new run
  RunsBy-exists old new le = elim (sound_or_fault limits old le) [
    | inr bad ↦ (Err (record { side = Old; line = bad.0; kind = bad.1 }), inl (refl, bad.2))
    | inl sound_old ↦ elim (sound_or_fault limits new le) [
      | inr bad ↦ (Err (record { side = New; line = bad.0; kind = bad.1 }), inr (sound_old, (refl, bad.2)))
      | inl sound_new ↦ (Ok (over old new), (sound_old, sound_new, refl))
    ]
  ]

  pub RunsOverBy-exists : (old new : Option (List ℕ)) → 14 ≤ limits.line
      → (r : Result X RunFault) × RunsOverBy limits over old new r
  RunsOverBy-exists None new le = (Err (Open Old), refl)
  RunsOverBy-exists (Some old) None le = elim (sound_or_fault limits old le) [
    | inr bad ↦
        let fault : DbFault = record { side = Old; line = bad.0; kind = bad.1 } in
        (Err (Database fault), inr (fault, (refl, bad.2), refl))
    | inl sound ↦ (Err (Open New), inl (sound, refl))
  ]
  RunsOverBy-exists (Some old) (Some new) le =
      let run = RunsBy-exists old new le in (run_answer run.0, (run.0, run.1, refl))

  -- ---- there is only one

  -- the first fault of an old text is the answer
  old_fault : (old : List ℕ) (new : Option (List ℕ)) (fault : DbFault) (r : Result X RunFault)
      → IsFirstFaultOf limits Old old fault → RunsOverBy limits over (Some old) new r → r ≡ Err (Database fault)
  old_fault old None fault r first runs = elim runs [
    | inl refused ↦ absurd (first_fault_unsound limits old fault.line fault.kind first.1 refused.0)
    | inr bad ↦ bad.2 ∙ ap (λ (f : DbFault). Err (Database f)) (same_fault limits Old old bad.0 fault bad.1 first)
  ]
  old_fault old (Some new) fault r first runs =
      runs.2 ∙ ap run_answer (RunsBy-unique limits over old new runs.0 (Err fault) runs.1 (inl first))

  -- beside a sound old text, a new side that is not there is refused
  new_refused : (old : List ℕ) (r : Result X RunFault) → IsSound limits old
      → RunsOverBy limits over (Some old) None r → r ≡ Err (Open New)
  new_refused old r sound runs = elim runs [
    | inl refused ↦ refused.1
    | inr bad ↦ absurd (first_fault_unsound limits old bad.0.line bad.0.kind bad.1.1 sound)
  ]

  pub RunsOverBy-unique : (old new : Option (List ℕ)) (r s : Result X RunFault)
      → RunsOverBy limits over old new r → RunsOverBy limits over old new s → r ≡ s
  RunsOverBy-unique None new r s a b = a ∙ sym b
  RunsOverBy-unique (Some old) None r s a b = elim a [
    | inl refused ↦ refused.1 ∙ sym (new_refused old s refused.0 b)
    | inr bad ↦ bad.2 ∙ sym (old_fault old None bad.0 s bad.1 b)
  ]
  RunsOverBy-unique (Some old) (Some new) r s a b =
      a.2 ∙ ap run_answer (RunsBy-unique limits over old new a.0 b.0 a.1 b.1) ∙ sym b.2

  -- ---- the answer is a fault

  -- a fault of the old side is the answer
  right_old : (old : List ℕ) (new : Option (List ℕ)) (fault : RunFault) (r : Result X RunFault)
      → IsFaultAt limits Old (Some old) fault → RunsOverBy limits over (Some old) new r → r ≡ Err fault
  right_old old new (Database fault) r bad runs = old_fault old new fault r bad runs
  right_old old new _ r bad runs = absurd bad

  -- so is one of the new side, behind a sound old text
  right_new : (old : List ℕ) (new : Option (List ℕ)) (fault : RunFault) (r : Result X RunFault) → IsSound limits old
      → IsFaultAt limits New new fault → RunsOverBy limits over (Some old) new r → r ≡ Err fault
  right_new old None fault r sound refused runs = new_refused old r sound runs ∙ ap (λ (f : RunFault). Err f) (sym refused)
  right_new old (Some new) (Database fault) r sound bad runs =
      runs.2 ∙ ap run_answer (RunsBy-unique limits over old new runs.0 (Err fault) runs.1 (inr (sound, bad)))
  right_new old (Some new) _ r sound bad runs = absurd bad

  right_answer : (old new : Option (List ℕ)) (fault : RunFault) (r : Result X RunFault) → IsRightFault limits old new fault
      → RunsOverBy limits over old new r → r ≡ Err fault
  right_answer None new fault r right runs = runs ∙ ap (λ (f : RunFault). Err f) (sym right)
  right_answer (Some old) new fault r right runs = elim right [
    | inl bad ↦ right_old old new fault r bad runs
    | inr p ↦ right_new old new fault r p.0 p.1 runs
  ]

  -- a run stops for the right fault, or for one that keeps it from its answer
  pub stops_for : (old new : Option (List ℕ)) (hindered : RunFault → Type 0) (fault : RunFault)
      → IsRightFault limits old new fault ⊎ hindered fault → (r : Result X RunFault) → RunsOverBy limits over old new r
      → StopsFor r hindered fault
  stops_for old new hindered fault is r runs = elim is [
    | inl right ↦ subst (λ (x : Result X RunFault). StopsFor x hindered fault)
        (sym (right_answer old new fault r right runs)) (inl refl)
    | inr h ↦ stops_hindered r hindered fault h
  ]
