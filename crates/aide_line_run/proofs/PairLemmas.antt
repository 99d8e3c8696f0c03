-- The answers with a trusted pair, by those over each pair.
use Rattle.std.specs.Prelude.{◌≡◌, ℕ, Bool, Option, Some, None, Result, Ok, Err, List, ⊤, false}
use Rattle.std.proofs.Common.{ap, inl, inr, rules, subst, sym}
use Rattle.aide_db.specs.Database.{IsSound}
use Rattle.aide_db.specs.declared.fault.DbFault.{DbFault}
use Rattle.aide_db.specs.declared.limits.Limits.{Limits}
use Rattle.aide_db.specs.declared.side.Side.{Side}
use Rattle.aide_db.specs.declared.side.Side.TheVariants.{Old, New}
use Rattle.aide_db.proofs.MapLaws.{first_fault_unsound}
use Rattle.aide_merge.specs.RightAnswer.{Report, RunsBy, RunsOverBy, StopsFor, TellsSide, run_answer}
use Rattle.aide_merge.specs.declared.outcome.Outcome.{Outcome}
use Rattle.aide_merge.specs.declared.run_fault.RunFault.{RunFault}
use Rattle.aide_merge.proofs.AnswerLemmas.{over_texts}
use Rattle.aide_line_run.specs.RunEnds.{StopsForPair, answer_by}
use Rattle.aide_line_run.specs.Pairs.{OfEach}
use Rattle.aide_line_run.specs.declared.pair_fault.PairFault.{PairFault}
use Rattle.aide_line_run.specs.declared.pair_fault.PairFault.TheVariants.{Compared, Trusted}

stops_as : (r s : Result Report PairFault) (hindered : PairFault → Type 0) (fault : PairFault) → r ≡ s
    → StopsForPair s hindered fault → StopsForPair r hindered fault
stops_as r s hindered fault is h = subst (λ (x : Result Report PairFault). StopsForPair x hindered fault) (sym is) h

-- who stops as is right over the compared pair stops as is right over both
pub stops_compared : (compared trusted : Result Outcome RunFault) (over : Option Report) (r : Result Report PairFault)
    (hindered other : RunFault → Type 0) (fault : RunFault) → answer_by compared trusted over r → StopsFor compared hindered fault
    → StopsForPair r (OfEach hindered other) (Compared fault)
stops_compared (Err right) trusted over r hindered other fault is h = search (rules, stops_as)
stops_compared (Ok outcome) (Err bad) over r hindered other fault is h = search (rules, stops_as)
stops_compared (Ok outcome) (Ok second) None r hindered other fault is h = search rules
stops_compared (Ok outcome) (Ok second) (Some whole) r hindered other fault is h = search (rules, stops_as)

-- the answer is no fault
abbrev pub IsOkay : Result Outcome RunFault → Type 0
IsOkay (Ok outcome) = ⊤
IsOkay (Err fault) = ⊥

-- and behind a compared pair without a fault, as is right over the trusted pair
pub stops_trusted : (compared trusted : Result Outcome RunFault) (over : Option Report) (r : Result Report PairFault)
    (hindered other : RunFault → Type 0) (fault : RunFault) → answer_by compared trusted over r → IsOkay compared
    → StopsFor trusted other fault → StopsForPair r (OfEach hindered other) (Trusted fault)
stops_trusted (Err right) trusted over r hindered other fault is okay h = absurd okay
stops_trusted (Ok outcome) (Err bad) over r hindered other fault is okay h =
    stops_as r (Err (Trusted bad)) (OfEach hindered other) (Trusted fault) is (elim h [ inl same ↦ inl (ap Trusted same) | inr p ↦ inr p ])
stops_trusted (Ok outcome) (Ok second) None r hindered other fault is okay h = absurd is
stops_trusted (Ok outcome) (Ok second) (Some whole) r hindered other fault is okay h =
    stops_as r (Ok whole) (OfEach hindered other) (Trusted fault) is h

module _ (limits : Limits) (over : List ℕ → List ℕ → Outcome) where
  okay_run : (old new : List ℕ) (run : Result Outcome DbFault) → IsSound limits old → IsSound limits new
      → RunsBy limits over old new run → IsOkay (run_answer run)
  okay_run old new (Ok outcome) sound sound_new runs = tt
  okay_run old new (Err fault) sound sound_new runs = elim runs [
    | inl bad ↦ first_fault_unsound limits old fault.line fault.kind bad.1 sound
    | inr bad ↦ first_fault_unsound limits new fault.line fault.kind bad.1.1 sound_new
  ]

  -- two sound texts that are there have an answer without a fault
  pub okay_over : (bytes_of : Side → Option (List ℕ)) (is_missing : Side → Bool) (old new : Option (List ℕ))
      → TellsSide (bytes_of Old) (is_missing Old) old → TellsSide (bytes_of New) (is_missing New) new
      → ((side : Side) → is_missing side ≡ false)
      → ((side : Side) (text : List ℕ) → bytes_of side ≡ Some text → IsSound limits text)
      → (r : Result Outcome RunFault) → RunsOverBy limits over old new r → IsOkay r
  okay_over bytes_of is_missing old new told told_new there sound =
      over_texts limits over bytes_of is_missing old new IsOkay told told_new there
      (λ old_text new_text is_old is_new run runs. okay_run old_text new_text run (sound Old old_text is_old) (sound New new_text is_new)
      runs)
