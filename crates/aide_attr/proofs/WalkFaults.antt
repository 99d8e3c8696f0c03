-- Where an expression fails.
use Rattle.std.proofs.Common.{ℕ, ◌≡◌, ◌<◌, ◌≤◌, ◌+◌, Bool, true, false, List, [], ◌∷◌, ◌++◌, length, refl, sym, ap, ◌∙◌}
use Rattle.std.proofs.Common.{subst, inl, inr, arith}
use Rattle.std.proofs.Common.{append_assoc, cond, Option, Some, None, Result, Ok, Err, length-append, rules}
use Rattle.std.specs.Prelude.{option_and_then}
use Rattle.std.proofs.lemmas.List.{append-nil}
use Rattle.aide_attr.specs.declared.attr.Attr.{Attr}
use Rattle.aide_attr.specs.declared.expression.Stage.{Stage}
use Rattle.aide_attr.specs.declared.expression.Stage.TheVariants.{BeforeName, InName, AfterName}
use Rattle.aide_attr.specs.declared.expression.ExprFault.{ExprFault}
use Rattle.aide_attr.specs.declared.expression.ExprFault.TheVariants.{UnknownName, BadExpression}
use Rattle.aide_attr.specs.Byte.{is_name_byte}
use Rattle.aide_attr.specs.Expression.{Each, starts_named, ends_named, Term, IsExpression, Lookup, IsFront, IsBreak}
use Rattle.aide_attr.specs.Expression.{IsUnknown, NoneBefore, IsFault}
use Rattle.aide_attr.specs.code.Walk.{Spot, name_run, after_step, step, begun, apply, taken, after_byte, walk}
use Rattle.aide_attr.proofs.WalkSteps.{stage_is, At, NoName, whole_run, onward}
use Rattle.aide_attr.proofs.WalkLemmas.{bool_cases, run_all, front_runs, runs_front, step_named}

-- ---- indices

after_not_within : (s : Bool) (b : ℕ) (q : Spot) → after_step s b ≡ Some q → q.0 ≡ InName → ⊥
after_not_within s b q e w = search (rules, bool_cases, stage_is)

step_other : (p : Stage) (s : Bool) (b : ℕ) (q : Spot) → step p s b ≡ Some q → is_name_byte b ≡ false → q.0 ≡ InName → ⊥
step_other BeforeName s b q e h w = search (rules, bool_cases, stage_is)
step_other InName s b q e h w = after_not_within s b q (rw h at e) w
step_other AfterName s b q e h w = after_not_within s b q e w

run_more : (p : Stage) (s : Bool) (xs ys : List ℕ)
    → run_all p s (xs ++ ys) ≡ option_and_then (λ (q : Spot). run_all q.0 q.1 ys) (run_all p s xs)
unfolding run_all
run_more p s [] ys = refl
run_more p s (x ∷ xs) ys = by_step (λ q. run_more q.0 q.1 xs ys) (step p s x)
  where
    by_step : ((q : Spot) → run_all q.0 q.1 (xs ++ ys) ≡ option_and_then (λ (r : Spot). run_all r.0 r.1 ys) (run_all q.0 q.1 xs))
        → (o : Option Spot)
        → option_and_then (λ (q : Spot). run_all q.0 q.1 (xs ++ ys)) o ≡ option_and_then (λ (r : Spot). run_all r.0 r.1 ys)
        (option_and_then (λ (q : Spot). run_all q.0 q.1 xs) o)
    by_step again None = refl
    by_step again (Some q) = again q

-- what runs has fronts that run
run_front : (p : Stage) (s : Bool) (xs ys : List ℕ) (q : Spot) → run_all p s (xs ++ ys) ≡ Some q
    → (r : Spot) × (run_all p s xs ≡ Some r)
run_front p s xs ys q e = search (rules, run_all, run_more)

-- an index that wants a name is behind no name byte
ends_wanting : (p : Stage) (s : Bool) (xs : List ℕ) (q : Spot) → run_all p s xs ≡ Some q → q.0 ≡ BeforeName
    → ends_named xs ≡ false
unfolding run_all
ends_wanting p s [] q e w = refl
ends_wanting p s (x ∷ []) q e w = elim (bool_cases (is_name_byte x)) [ inr k ↦ k | inl k ↦ absurd (by_step (step p s x) refl e k) ]
  where
    by_step : (o : Option Spot) → step p s x ≡ o → option_and_then (λ (q : Spot). Some (q.0, q.1)) o ≡ Some q
        → is_name_byte x ≡ true → ⊥
    by_step None k m n = cc
    by_step (Some r) k m n =
        let f : r.0 ≡ InName = step_named p s x r k n in
        let g : r.0 ≡ q.0 = stage_is r.0 r.1 q m in
        cc
ends_wanting p s (x ∷ y ∷ xs) q e w = by_step (λ r m. ends_wanting r.0 r.1 (y ∷ xs) q m w) (step p s x) e
  where
    by_step : ((r : Spot) → run_all r.0 r.1 (y ∷ xs) ≡ Some q → ends_named (y ∷ xs) ≡ false) → (o : Option Spot)
        → option_and_then (λ (r : Spot). run_all r.0 r.1 (y ∷ xs)) o ≡ Some q → ends_named (y ∷ xs) ≡ false
    by_step again None m = cc
    by_step again (Some r) m = again r m

-- ---- names that the walk has passed are known

abbrev pub Reaches : Result (Attr → Bool) ExprFault → ℕ → Type 0
Reaches (Ok m) j = Unit {0}
Reaches (Err (UnknownName k)) j = j < k
Reaches (Err (BadExpression k)) j = j < k

named_next : (rest : List ℕ) → starts_named rest ≡ false → NoName rest
unfolding NoName
named_next [] h = tt
named_next (b ∷ bs) h = h

pub known_before : (look : Lookup) (acc : Attr → Bool) (p : Stage) (s : Bool) (i : ℕ) (bs : List ℕ) (d name rest : List ℕ)
    → bs ≡ d ++ name ++ rest
    → (d ≡ [] → p ≡ InName → ⊥)
    → ends_named d ≡ false → Each is_name_byte name → 0 < length name → starts_named rest ≡ false
    → Reaches (walk look acc p s i bs) (i + length d)
    → look name ≡ None → ⊥
unfolding walk
known_before look acc p s i [] [] (x ∷ name) rest e w n k o r c u = cc
known_before look acc p s i [] (x ∷ d) name rest e w n k o r c u = cc
known_before look acc p s i (b ∷ bs) [] (x ∷ name) rest e w n k o r c u = by_stage p (w refl) (step p s b) refl c
  where
    same : b ≡ x
    same = cc

    more : bs ≡ name ++ rest
    more = cc

    named : is_name_byte b ≡ true
    named = rw same k.0

    run : name_run bs ≡ name
    run = ap name_run more ∙ whole_run name rest k.1 (named_next rest r)

    unknown : taken look acc (record { adds = s; name = b ∷ name_run bs } ∷ []) ≡ None
    unknown = let f : look (b ∷ name_run bs) ≡ None = ap look (ap (λ z. b ∷ z) run ∙ ap (λ z. z ∷ name) same) ∙ u in rw f refl

    by_stage : (p' : Stage) → (p' ≡ InName → ⊥) → (o' : Option Spot) → step p' s b ≡ o'
        → Reaches (after_byte o' (taken look acc (begun p' s b bs)) i (λ q known. walk look known q.0 q.1 (i + 1) bs)) (i + 0)
        → ⊥
    by_stage p' w' None m z = omega arith
    by_stage InName w' (Some q) m z = w' refl
    by_stage AfterName w' (Some q) m z = after_not_within s b q m (step_named AfterName s b q m named)
    by_stage BeforeName w' (Some q) m z = omega (arith, (rw (named, unknown) at z))
known_before look acc p s i (b ∷ bs) (x ∷ d) name rest e w n k o r c u =
    by_byte (λ q known w' c'. known_before look known q.0 q.1 (i + 1) bs d name rest more w' (tail_ends d n) k o r c' u) (step p s b) refl
    (taken look acc (begun p s b bs)) c
  where
    same : b ≡ x
    same = cc

    more : bs ≡ d ++ name ++ rest
    more = cc

    tail_ends : (d : List ℕ) → ends_named (x ∷ d) ≡ false → ends_named d ≡ false
    tail_ends [] h = refl
    tail_ends (y ∷ d) h = h

    by_byte : ((q : Spot) (known : Attr → Bool) → (d ≡ [] → q.0 ≡ InName → ⊥)
        → Reaches (walk look known q.0 q.1 (i + 1) bs) (i + 1 + length d) → ⊥)
        → (o' : Option Spot) → step p s b ≡ o' → (t : Option (Attr → Bool))
        → Reaches (after_byte o' t i (λ q known. walk look known q.0 q.1 (i + 1) bs)) (i + length (x ∷ d)) → ⊥
    by_byte again None m t z = omega arith
    by_byte again (Some q) m None z = omega arith
    by_byte again (Some q) m (Some known) z = again q known
        (λ f g. step_other p s b q m (ap is_name_byte same
        ∙ (let h : ends_named (x ∷ []) ≡ false = subst (λ y. ends_named (x ∷ y) ≡ false) f n in h)) g)
        (let h : i + length (x ∷ d) ≡ i + 1 + length d = omega arith in subst (Reaches (walk look known q.0 q.1 (i + 1) bs)) h z)
known_before look acc p s i _ [] [] rest e w n k o r c u = absurd (omega arith)

-- ---- what the walk passed before its fault

-- the bytes that the walk passed, with the index after them, and the bytes from the fault on
pub record Passed (p : Stage) (s : Bool) (i : ℕ) (bs : List ℕ) (k : ℕ) : Type 0 where
  pub done : List ℕ
  pub left : List ℕ
  pub cut : bs ≡ done ++ left
  pub at : i + length done ≡ k
  pub stage : Spot
  pub runs : run_all p s done ≡ Some stage

-- why it stops there
abbrev pub Stops : Lookup → ExprFault → Stage → Bool → List ℕ → Type 0
Stops look (BadExpression k) p s [] = p ≡ BeforeName
Stops look (BadExpression k) p s (b ∷ bs) = step p s b ≡ None
Stops look (UnknownName k) p s [] = ⊥
Stops look (UnknownName k) p s (b ∷ bs) =
    (q : Spot) × (step p s b ≡ Some q) × (p ≡ BeforeName) × (is_name_byte b ≡ true) × (look (b ∷ name_run bs) ≡ None)

abbrev pub fault_index : ExprFault → ℕ
fault_index (UnknownName k) = k
fault_index (BadExpression k) = k

abbrev pub Stopped : Lookup → Stage → Bool → ℕ → List ℕ → ExprFault → Type 0
Stopped look p s i bs e = (w : Passed p s i bs (fault_index e)) × Stops look e w.stage.0 w.stage.1 w.left

here : (look : Lookup) (p : Stage) (s : Bool) (i : ℕ) (bs : List ℕ) (e : ExprFault) → fault_index e ≡ i
    → Stops look e p s bs
    → Stopped look p s i bs e
unfolding run_all
here look p s i bs e k h =
    (record { done = []; left = bs; cut = refl; at = omega (arith, k); stage = (p, s); runs = refl }, h)

later : (look : Lookup) (p : Stage) (s : Bool) (i b : ℕ) (bs : List ℕ) (e : ExprFault) (q : Spot) → step p s b ≡ Some q
    → Stopped look q.0 q.1 (i + 1) bs e → Stopped look p s i (b ∷ bs) e
unfolding run_all
later look p s i b bs e q k h = (
  record {
    done = b ∷ h.0.done;
    left = h.0.left;
    cut = ap (λ z. b ∷ z) h.0.cut;
    at = omega (arith, h.0.at);
    stage = h.0.stage;
    runs = rw k h.0.runs;
  },
  h.1,
)

pub stopped : (look : Lookup) (acc : Attr → Bool) (p : Stage) (s : Bool) (i : ℕ) (bs : List ℕ) (e : ExprFault)
    → walk look acc p s i bs ≡ Err e
    → Stopped look p s i bs e
unfolding walk
stopped look acc BeforeName s i [] e h =
    subst (Stopped look BeforeName s i []) (let g : BadExpression i ≡ e = cc in g) (here look BeforeName s i [] (BadExpression i) refl refl)
stopped look acc p s i (b ∷ bs) e h =
    by_byte (λ q known m. stopped look known q.0 q.1 (i + 1) bs e m) (step p s b) refl (taken look acc (begun p s b bs)) refl h
  where
    unknown : (q : Spot) (p' : Stage) → step p' s b ≡ Some q → taken look acc (begun p' s b bs) ≡ None
        → UnknownName i ≡ e
        → Stopped look p' s i (b ∷ bs) e
    unknown q InName m t g = cc
    unknown q AfterName m t g = cc
    unknown q BeforeName m t g =
        subst (Stopped look BeforeName s i (b ∷ bs)) g
        (here look BeforeName s i (b ∷ bs) (UnknownName i) refl (by_name (is_name_byte b) refl t))
      where
        by_look : (o : Option (Attr → Bool)) → option_and_then (λ set. Some (apply s (Some set) acc)) o ≡ None
            → o ≡ None
        by_look None z = refl
        by_look (Some set) z = cc

        by_name : (n : Bool) → is_name_byte b ≡ n → taken look acc (cond n (record { adds = s; name = b ∷ name_run bs } ∷ []) []) ≡ None
            → (r : Spot) × (step BeforeName s b ≡ Some r) × (BeforeName ≡ BeforeName) × (is_name_byte b ≡ true)
            × (look (b ∷ name_run bs) ≡ None)
        by_name false k z = cc
        by_name true k z = (q, m, refl, k, by_look (look (b ∷ name_run bs)) z)

    by_byte : ((q : Spot) (known : Attr → Bool) → walk look known q.0 q.1 (i + 1) bs ≡ Err e → Stopped look q.0 q.1 (i + 1) bs e)
        → (o : Option Spot) → step p s b ≡ o → (t : Option (Attr → Bool)) → taken look acc (begun p s b bs) ≡ t
        → after_byte o t i (λ q known. walk look known q.0 q.1 (i + 1) bs) ≡ Err e → Stopped look p s i (b ∷ bs) e
    by_byte again None m t n z =
        subst (Stopped look p s i (b ∷ bs)) (let g : BadExpression i ≡ e = cc in g) (here look p s i (b ∷ bs) (BadExpression i) refl m)
    by_byte again (Some q) m None n z = unknown q p m n (let g : UnknownName i ≡ e = cc in g)
    by_byte again (Some q) m (Some known) n z = later look p s i b bs e q m (again q known z)
stopped look acc _ s i [] e h = cc

-- ---- the fault

-- a shorter front of the same list
front_of : (xs ys zs bs : List ℕ) → xs ++ ys ≡ zs ++ bs → length xs ≤ length zs → (more : List ℕ) × (zs ≡ xs ++ more)
front_of [] ys zs bs e h = (zs, refl)
front_of (x ∷ xs) ys [] bs e h = absurd (omega arith)
front_of (x ∷ xs) ys (a ∷ zs) bs e h =
    let same : x ≡ a = cc in
    let rest : xs ++ ys ≡ zs ++ bs = cc in
    let r = front_of xs ys zs bs rest (omega arith) in
    (r.0, ap (λ z. z ∷ zs) (sym same) ∙ ap (λ z. x ∷ z) r.1)

-- what is left behind a run of name bytes
drop_run : List ℕ → List ℕ
drop_run [] = []
drop_run (b ∷ bs) = cond (is_name_byte b) (drop_run bs) (b ∷ bs)

split : (bs : List ℕ) → bs ≡ name_run bs ++ drop_run bs
unfolding drop_run
split [] = refl
split (b ∷ bs) = search (rules, split bs)

each : (bs : List ℕ) → Each is_name_byte (name_run bs)
each [] = tt
each (b ∷ bs) = search (rules, each bs)

starts : (bs : List ℕ) → starts_named (drop_run bs) ≡ false
unfolding drop_run
starts [] = refl
starts (b ∷ bs) = search (rules, starts bs)

is_front : (bs : List ℕ) (q : Spot) → run_all BeforeName true bs ≡ Some q → IsFront bs
is_front bs q e = search (rules, runs_front)

pub from_expression : (xs : List ℕ) (ts : List Term) → IsExpression xs ts → At BeforeName true xs ts
from_expression xs [] h = h
from_expression xs (t ∷ ts) h = h

same_front : (xs ys zs ws : List ℕ) → xs ++ ys ≡ zs ++ ws → length xs ≡ length zs → (xs ≡ zs) × (ys ≡ ws)
same_front [] ys [] ws e h = (refl, e)
same_front [] ys (z ∷ zs) ws e h = absurd (omega arith)
same_front (x ∷ xs) ys [] ws e h = absurd (omega arith)
same_front (x ∷ xs) ys (z ∷ zs) ws e h =
    let same : x ≡ z = cc in
    let rest : xs ++ ys ≡ zs ++ ws = cc in
    let r = same_front xs ys zs ws rest (omega arith) in
    (ap (λ y. y ∷ xs) same ∙ ap (λ y. z ∷ y) r.0, r.1)

front_is : (bs : List ℕ) → IsFront bs → (q : Spot) × (run_all BeforeName true bs ≡ Some q)
front_is bs h = front_runs BeforeName true bs h.0 h.1 (from_expression (bs ++ h.0) h.1 h.2)

at_end : (p : Stage) (s : Bool) (bs : List ℕ) (q : Spot) (ts : List Term) → run_all p s bs ≡ Some q → q.0 ≡ BeforeName
    → At p s bs ts → ⊥
unfolding run_all
at_end p s [] q ts e w h = none p (stage_is p s q e ∙ w) ts h
  where
    none : (p : Stage) → p ≡ BeforeName → (ts : List Term) → At p s [] ts → ⊥
    none BeforeName e [] h = h
    none BeforeName e (t ∷ ts) h = empty h.4.before t.name h.4.after h.2 (h.3 ∙ ap (λ z. z ++ h.2) h.4.spelled) h.4.some
      where
        empty : (before name after rest : List ℕ) → [] ≡ (before ++ name ++ after) ++ rest → 0 < length name → ⊥
        empty [] [] after rest k l = omega arith
        empty [] (n ∷ name) after rest k l = cc
        empty (x ∷ before) name after rest k l = cc
    none InName e ts h = cc
    none AfterName e ts h = cc
at_end p s (b ∷ bs) q ts e w h =
    let o = onward p s b bs ts h in
    at_end o.0.0 o.0.1 bs q o.1 (rw o.2 at e) w o.4

pub is_fault : (look : Lookup) (text : List ℕ) (e : ExprFault) → walk look (λ _. false) BeforeName true 0 text ≡ Err e
    → IsFault look text e
unfolding run_all
is_fault look text e h = by_kind e h (stopped look (λ _. false) BeforeName true 0 text e h)
  where
    -- a break before the fault would be a front that runs
    no_break : (k : ℕ) (w : Passed BeforeName true 0 text k) (j : ℕ) → j < k → IsBreak text j → ⊥
    no_break k w j l b =
        let cut : (b.0 ++ b.1 ∷ []) ++ b.2 ≡ w.done ++ w.left = append_assoc b.0 (b.1 ∷ []) b.2 ∙ sym b.3 ∙ w.cut in
        let f = front_of (b.0 ++ b.1 ∷ []) b.2 w.done w.left cut (omega (arith, length-append b.0 (b.1 ∷ []), b.4, w.at)) in
        let r = run_front BeforeName true (b.0 ++ b.1 ∷ []) f.0 w.stage (ap (run_all BeforeName true) (sym f.1) ∙ w.runs) in
        b.5 (is_front (b.0 ++ b.1 ∷ []) r.0 r.1)

    no_unknown : (k : ℕ) → Reaches (walk look (λ _. false) BeforeName true 0 text) k → (j : ℕ) → j ≡ k
        → IsUnknown look text j → ⊥
    no_unknown k c j l u =
        known_before look (λ _. false) BeforeName true 0 text u.0 u.1 u.2 u.3 (λ x y. cc) u.5 u.6 u.7 u.8
        (let g : k ≡ 0 + length u.0 = omega (arith, u.4) in subst (Reaches (walk look (λ _. false) BeforeName true 0 text)) g c) u.9

    none_before : (e : ExprFault) → walk look (λ _. false) BeforeName true 0 text ≡ Err e
        → Passed BeforeName true 0 text (fault_index e)
        → NoneBefore look text (fault_index e)
    none_before e h w j l = (no_break (fault_index e) w j l, no_unknown j (rw h (reaches e l)) j refl)
      where
        reaches : (e : ExprFault) → j < fault_index e → Reaches (Err e) j
        reaches (UnknownName k) l = l
        reaches (BadExpression k) l = l

    by_kind : (e : ExprFault) → walk look (λ _. false) BeforeName true 0 text ≡ Err e
        → Stopped look BeforeName true 0 text e → IsFault look text e
    by_kind (UnknownName k) h t = unknown t.0.left refl t.1
      where
        unknown : (left : List ℕ) → t.0.left ≡ left → Stops look (UnknownName k) t.0.stage.0 t.0.stage.1 left
            → IsFault look text (UnknownName k)
        unknown [] m z = absurd z
        unknown (b ∷ rest) m z = (
          none_before (UnknownName k) h t.0,
          (
            t.0.done,
            b ∷ name_run rest,
            drop_run rest,
            t.0.cut ∙ ap (λ y. t.0.done ++ y) (m ∙ ap (λ y. b ∷ y) (split rest))
                ∙ sym (append_assoc t.0.done (b ∷ name_run rest) (drop_run rest)),
            omega (arith, t.0.at),
            ends_wanting BeforeName true t.0.done t.0.stage t.0.runs z.2,
            (z.3, each rest),
            omega arith,
            starts rest,
            z.4,
          ),
          λ x. x.5 (runs_on x.0 x.1 x.2 (sym x.3 ∙ t.0.cut ∙ ap (λ y. t.0.done ++ y) m) (omega (arith, x.4, t.0.at)) z.0 z.1),
        )
          where
            runs_on : (d : List ℕ) (c : ℕ) (r : List ℕ) → d ++ c ∷ r ≡ t.0.done ++ b ∷ rest → length d ≡ length t.0.done
                → (q : Spot)
                → step t.0.stage.0 t.0.stage.1 b ≡ Some q → IsFront (d ++ c ∷ [])
            runs_on d c r e l q s =
                let g = same_front d (c ∷ r) t.0.done (b ∷ rest) e l in
                let k : c ≡ b = (let i : c ∷ r ≡ b ∷ rest = g.1 in cc) in
                is_front (d ++ c ∷ []) (q.0, q.1) (ap (run_all BeforeName true) (ap (λ y. y ++ c ∷ []) g.0 ∙ ap (λ y. t.0.done ++ y ∷ []) k)
                ∙ run_more BeforeName true t.0.done (b ∷ []) ∙ rw (t.0.runs, s) refl)
    by_kind (BadExpression k) h t = bad t.0.left refl t.1
      where
        bad : (left : List ℕ) → t.0.left ≡ left → Stops look (BadExpression k) t.0.stage.0 t.0.stage.1 left
            → IsFault look text (BadExpression k)
        bad [] m z = (
          none_before (BadExpression k) h t.0,
          inr (
            omega (arith, t.0.at, ap length whole),
            λ ts x. at_end BeforeName true text t.0.stage ts (ap (run_all BeforeName true) whole
                ∙ t.0.runs) z (from_expression text ts x),
          ),
        )
          where
            whole : text ≡ t.0.done
            whole = t.0.cut ∙ ap (λ y. t.0.done ++ y) m ∙ append-nil t.0.done
        bad (b ∷ rest) m z = (
          none_before (BadExpression k) h t.0,
          inl (
            t.0.done,
            b,
            rest,
            t.0.cut
                ∙ ap (λ y. t.0.done ++ y) m,
            omega (arith, t.0.at),
            λ f. stuck (front_is (t.0.done ++ b ∷ []) f),
          ),
        )
          where
            none : (q : Spot) → None ≡ Some q → ⊥
            none q x = cc

            stuck : (q : Spot) × (run_all BeforeName true (t.0.done ++ b ∷ []) ≡ Some q) → ⊥
            stuck q = none q.0 (sym (run_more BeforeName true t.0.done (b ∷ []) ∙ rw (t.0.runs, z) refl) ∙ q.1)
