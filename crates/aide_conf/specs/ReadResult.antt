-- The answer to the three texts of a configuration.
use Rattle.std.specs.Prelude.{ℕ, ◌≡◌, List, [], ◌∷◌, ◌++◌, Some, map, Result, Ok, Err}
use Rattle.aide_conf.specs.declared.task.Need.{Need}
use Rattle.aide_conf.specs.declared.fault.ConfFault.{ConfFault}
use Rattle.aide_conf.specs.declared.fault.ConfFaultKind.TheVariants.{Memory}
use Rattle.aide_conf.specs.Cutting.{Place, places}
use Rattle.aide_conf.specs.Marks.{Marked}
use Rattle.aide_conf.specs.FaultOrder.{fault_at}
use Rattle.aide_conf.specs.RightMarks.{AreSound, Grows, IsMarkedWell}
use Rattle.aide_conf.specs.Settings.{Configured, AreSettings}

-- no place has a fault, and the settings are these
pub record IsRead (need : Need) (ps : List Place) (c : Configured) : Type 0 where
  pub lines : List Marked
  pub all : map (λ x. x.place) lines ≡ ps
  pub sound : AreSound need [] lines
  pub settings : AreSettings lines c

-- The first fault, for which the configuration is refused: no place before its place has a fault, and it is the first
-- in the order that its place has.
pub record IsRefused (need : Need) (ps : List Place) (e : ConfFault) : Type 0 where
  pub lines : List Marked
  pub at : Marked
  pub rest : List Place
  pub cut : ps ≡ map (λ x. x.place) lines ++ at.place ∷ rest
  pub sound : AreSound need [] lines
  pub marked : IsMarkedWell lines at
  pub fault : fault_at need lines at ≡ Some e.kind
  pub text : e.text ≡ at.place.text
  pub line : e.line ≡ at.place.number

-- Out of memory: no place before this line has a fault, and memory may be allocated at this line.
pub record IsStarved (need : Need) (ps : List Place) (e : ConfFault) : Type 0 where
  pub lines : List Marked
  pub at : Place
  pub rest : List Place
  pub cut : ps ≡ map (λ x. x.place) lines ++ at ∷ rest
  pub sound : AreSound need [] lines
  pub grows : Grows lines at
  pub kind : e.kind ≡ Memory
  pub text : e.text ≡ at.text
  pub line : e.line ≡ at.number

-- what the three texts read as
abbrev pub ReadsAs : Need → List ℕ → List ℕ → List ℕ → Result Configured ConfFault → Type 0
ReadsAs need before file after (Ok c) = IsRead need (places before file after) c
ReadsAs need before file after (Err e) = IsRefused need (places before file after) e
