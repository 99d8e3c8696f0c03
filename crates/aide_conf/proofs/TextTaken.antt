-- The lines of a text, taken one after another.
use Rattle.std.proofs.Common.{rules, ℕ, ◌≡◌, ◌<◌, ◌+◌, List, [], ◌∷◌, ◌++◌, length, refl, sym, ap}
use Rattle.std.proofs.Common.{subst, arith, Option, Some, None, Result, Ok, Err, append_assoc}
use Rattle.std.specs.Prelude.{map, unwrap_or}
use Rattle.aide_conf.specs.declared.task.Need.{Need}
use Rattle.aide_conf.specs.declared.fault.ConfText.{ConfText}
use Rattle.aide_conf.specs.declared.fault.ConfFaultKind.{ConfFaultKind}
use Rattle.aide_conf.specs.declared.builder.SettingsBuilder.{SettingsBuilder}
use Rattle.aide_conf.specs.Cutting.{Place, places_from, lines_of, strip, is_newline, bytes_before, bytes_after}
use Rattle.aide_conf.specs.declared.blocks.Frame.{Frame}
use Rattle.aide_conf.specs.Blocks.{nothing}
use Rattle.aide_conf.specs.code.Stack.{IsOpen}
use Rattle.aide_conf.specs.Marks.{Marked}
use Rattle.aide_conf.specs.MarkedBlocks.{seen_in}
use Rattle.aide_conf.specs.FaultOrder.{fault_at}
use Rattle.aide_conf.specs.RightMarks.{AreSound, IsMarkedWell}
use Rattle.aide_conf.specs.code.Builder.{IsBuiltFrom, place_at, TakesOne, Takes, Stops}
use Rattle.aide_conf.proofs.Cuts.{append_nothing}

-- ---- lines

abbrev pub line_rest : List ℕ → List ℕ
line_rest bs = unwrap_or (bytes_after is_newline bs) []

some_line : (bs : List ℕ) → 0 < length bs → lines_of bs ≡ bytes_before is_newline bs ∷ lines_of (line_rest bs)
some_line [] h = absurd (omega arith)
some_line (b ∷ []) h = search rules
some_line (b ∷ c ∷ cs) h = search (rules, some_line (c ∷ cs) (omega arith))

pub shorter : (bs : List ℕ) → 0 < length bs → length (line_rest bs) < length bs
shorter [] h = absurd (omega arith)
shorter (b ∷ []) h = search rules
shorter (b ∷ c ∷ cs) h = search (rules, shorter (c ∷ cs) (omega arith))

-- ---- places

-- some places of a text are taken, and others are left
abbrev pub Going : {A : Type 0} → Need → ConfText → SettingsBuilder A → SettingsBuilder A → List Frame → List Place → List Place → Type 0
Going need text start p fs all left = (earlier : List Marked) → seen_in text earlier ≡ [] → IsBuiltFrom earlier start
    → (xs : List Marked) × (map (λ x. x.place) xs ++ left ≡ all) × AreSound need earlier xs × IsBuiltFrom (earlier ++ xs) p
    × IsOpen (seen_in text (earlier ++ xs)) fs

pub starts : {A : Type 0} (need : Need) (text : ConfText) (p : SettingsBuilder A) (fs : List Frame) (all : List Place) → fs ≡ []
    → Going need text p p fs all all
starts need text p fs all e earlier none s = (
  [],
  refl,
  tt,
  subst (λ z. IsBuiltFrom z p) (sym (append_nothing earlier)) s,
  subst (λ z. IsOpen (seen_in text z) fs) (sym (append_nothing earlier))
      (subst (λ z. IsOpen z fs) (sym none) (subst (IsOpen []) (sym e) nothing)),
)

sound_more : (need : Need) (earlier xs : List Marked) (x : Marked) → AreSound need earlier xs
    → IsMarkedWell (earlier ++ xs) x → fault_at need (earlier ++ xs) x ≡ None → AreSound need earlier (xs ++ x ∷ [])
sound_more need earlier [] x h m f = search (rules, append_nothing)
sound_more need earlier (y ∷ ys) x h m f = search (rules, append_assoc, sound_more need (earlier ++ y ∷ []) ys x h.2)

map_more : (xs : List Marked) (x : Marked) (left : List Place)
    → map (λ (y : Marked). y.place) (xs ++ x ∷ []) ++ left ≡ map (λ (y : Marked). y.place) xs ++ x.place ∷ left
map_more [] x left = refl
map_more (y ∷ ys) x left = ap (λ z. y.place ∷ z) (map_more ys x left)

module _ {A : Type 0} (need : Need) (text : ConfText) (start p q : SettingsBuilder A) (fs gs : List Frame) (all left : List Place) (n : ℕ)
    (line : Option (List ℕ)) (g : Going need text start p fs all (place_at text n line ∷ left)) where
  -- what one more place does to the builder and the blocks
  abbrev pub One : Result (Unit {0}) ConfFaultKind → Type 0
  One result = (earlier : List Marked) → IsBuiltFrom earlier p → IsOpen (seen_in text earlier) fs
      → TakesOne {E = Unit {0}} need earlier (place_at text n line) q gs result

  -- it is taken
  takes : (u : Unit {0}) → One (Ok u) → Going need text start q gs all left
  takes u one earlier none s = search (rules, map_more, sound_more, append_assoc)

  -- it has a fault
  stops : (kind : ConfFaultKind) → One (Err kind) → (earlier : List Marked) → seen_in text earlier ≡ [] → IsBuiltFrom earlier start
      → Stops need earlier all (record { text = text; line = n; kind = kind })
  stops kind one earlier none s = search rules

-- all are taken
ends : {A : Type 0} (need : Need) (text : ConfText) (start q : SettingsBuilder A) (fs : List Frame) (all : List Place)
    → Going need text start q fs all [] → (earlier : List Marked) → seen_in text earlier ≡ [] → IsBuiltFrom earlier start
    → Takes need earlier all q
ends need text start q fs all g earlier none s = search (rules, append_nothing)

next_line : (text : ConfText) (n : ℕ) (rest : List ℕ) → 0 < length rest
    → places_from text n (lines_of rest) ≡ place_at text n (Some (strip (bytes_before is_newline rest))) ∷ places_from text (n + 1)
    (lines_of (line_rest rest))
next_line text n rest h = ap (places_from text n) (some_line rest h)

at_last : (text : ConfText) (n : ℕ) (rest : List ℕ) → length rest ≡ 0
    → places_from text n (lines_of rest) ≡ place_at text n None ∷ []
at_last text n [] h = refl
at_last text n (b ∷ bs) h = absurd (omega arith)

module _ {A : Type 0} (need : Need) (start p q : SettingsBuilder A) (fs gs : List Frame) (all : List Place) (text : ConfText) (n : ℕ)
    (rest line : List ℕ) (h : 0 < length rest) (e : line ≡ strip (bytes_before is_newline rest))
    (g : Going need text start p fs all (places_from text n (lines_of rest))) where
  next : Going need text start p fs all (place_at text n (Some line) ∷ places_from text (n + 1) (lines_of (line_rest rest)))
  next = search (rules, next_line)

  pub stop_line : (kind : ConfFaultKind) →
      ((earlier : List Marked) → IsBuiltFrom earlier p → IsOpen (seen_in text earlier) fs
      → TakesOne {E = Unit {0}} need earlier (place_at text n (Some line)) q gs (Err kind))
      → (earlier : List Marked) → seen_in text earlier ≡ [] → IsBuiltFrom earlier start
      → Stops need earlier all (record { text = text; line = n; kind = kind })
  stop_line kind one = stops need text start p q fs gs all _ n (Some line) next kind one

  pub take_line : (u : Unit {0}) → ((earlier : List Marked) → IsBuiltFrom earlier p → IsOpen (seen_in text earlier) fs
      → TakesOne {E = Unit {0}} need earlier (place_at text n (Some line)) q gs (Ok u))
      → (more : List ℕ) → more ≡ line_rest rest
      → Going need text start q gs all (places_from text (n + 1) (lines_of more))
  take_line u one more m = subst (λ z. Going need text start q gs all (places_from text (n + 1) (lines_of z))) (sym m)
      (takes need text start p q fs gs all _ n (Some line) next u one)

module _ {A : Type 0} (need : Need) (start p : SettingsBuilder A) (fs : List Frame) (all : List Place) (text : ConfText) (n : ℕ)
    (rest : List ℕ) (h : length rest ≡ 0)
    (g : Going need text start p fs all (places_from text n (lines_of rest))) where
  pub stop_end : (kind : ConfFaultKind) → ((earlier : List Marked) → IsBuiltFrom earlier p → IsOpen (seen_in text earlier) fs
      → TakesOne {E = Unit {0}} need earlier (place_at text n None) p fs (Err kind))
      → (earlier : List Marked) → seen_in text earlier ≡ [] → IsBuiltFrom earlier start
      → Stops need earlier all (record { text = text; line = n; kind = kind })
  stop_end kind one = search (rules, stops, at_last)

  pub take_end : (u : Unit {0}) → ((earlier : List Marked) → IsBuiltFrom earlier p → IsOpen (seen_in text earlier) fs
      → TakesOne {E = Unit {0}} need earlier (place_at text n None) p fs (Ok u))
      → (earlier : List Marked) → seen_in text earlier ≡ [] → IsBuiltFrom earlier start → Takes need earlier all p
  take_end u one = ends need text start p fs all
      (takes need text start p p fs fs all [] n None (subst (Going need text start p fs all) (at_last text n rest h) g) u one)
