-- Expressions are read byte by byte.
use Rattle.std.proofs.Common.{rules, ℕ, ◌≡◌, ◌<◌, ◌≤◌, ◌+◌, Bool, true, false, List, [], ◌∷◌, ◌++◌, length, refl, sym, ap}
use Rattle.std.proofs.Common.{◌∙◌, subst, inl, inr, arith, append_assoc, cond, Option, Some, None, Ok, Err, get_or, drop}
use Rattle.std.specs.Prelude.{◌⊎◌, ◌↔◌, ◌==◌, IsSome, option_and_then}
use Rattle.std.proofs.lemmas.Bool.{eqb-true}
use Rattle.std.proofs.lemmas.List.{drop_all}
use Rattle.aide_attr.specs.declared.attr.Attr.{Attr}
use Rattle.aide_attr.specs.declared.set.AttrSet.{AttrSet}
use Rattle.aide_attr.specs.declared.expression.Stage.{Stage}
use Rattle.aide_attr.specs.declared.expression.Stage.TheVariants.{BeforeName, InName, AfterName}
use Rattle.aide_attr.specs.declared.expression.ExprFault.TheVariants.{UnknownName, BadExpression}
use Rattle.aide_attr.specs.Set.{has}
use Rattle.aide_attr.specs.Byte.{is_blank, is_name_byte, is_word_byte}
use Rattle.aide_attr.specs.Expression.{Each, Term, IsSpaced, sign, AreMore, IsExpression, Lookup, set_has, NoneHas}
use Rattle.aide_attr.specs.Expression.{IsMeant, AllKnown, IsMeaning}
use Rattle.aide_attr.specs.code.Walk.{Spot, name_run, after_step, step, begun, apply, taken, after_byte, walk}
use Rattle.aide_attr.proofs.WalkSteps.{spot_is, stage_is, name_not_blank, sign_not_name, blank_not_name, At, whole_run}
use Rattle.aide_attr.proofs.WalkSteps.{tail_no_name, onward}

pub bool_cases : (b : Bool) → (b ≡ true) ⊎ (b ≡ false)
bool_cases true = inl refl
bool_cases false = inr refl

-- ---- and back

signed : (t : Bool) (bs : List ℕ) (ts : List Term) → At BeforeName t bs ts → AreMore (sign t ∷ bs) ts
signed t bs [] h = absurd h
signed t bs (u ∷ ts) h =
    (h.1, h.2, (let e = h.3 in ap (λ z. sign z ∷ bs) (sym h.0) ∙ ap (λ z. sign u.adds ∷ z) e), h.4, h.5)

at_spot : (p q : Spot) (bs : List ℕ) (ts : List Term) → p ≡ q → At q.0 q.1 bs ts → At p.0 p.1 bs ts
at_spot p q bs ts e h = subst (λ (z : Spot). At z.0 z.1 bs ts) (sym e) h

AfterBack : ℕ → List ℕ → List Term → Type 0
AfterBack b bs ts =
    (after : List ℕ) × (rest : List ℕ) × (b ∷ bs ≡ after ++ rest) × Each is_blank after × AreMore rest ts

after_back : (s : Bool) (b : ℕ) (bs : List ℕ) (ts : List Term) (q : Spot) → after_step s b ≡ Some q → At q.0 q.1 bs ts
    → AfterBack b bs ts
unfolding AfterBack
after_back s b bs ts q e h = search (rules, bool_cases, spot_is, eqb-true, none, blank, plus, minus)
  where
    none : None ≡ Some q → ⊥
    none z = cc

    blank : is_blank b ≡ true → (AfterName, s) ≡ q → AfterBack b bs ts
    blank k m = let j = at_spot (AfterName, s) q bs ts m h in
        (b ∷ j.0, j.1, ap (λ z. b ∷ z) j.2, (k, j.3), j.4)

    plus : b ≡ 43 → (BeforeName, true) ≡ q → AfterBack b bs ts
    plus k m = ([], b ∷ bs, refl, tt, subst (λ z. AreMore (z ∷ bs) ts) (sym k) (signed true bs ts (at_spot (BeforeName, true) q bs ts m h)))

    minus : b ≡ 45 → (BeforeName, false) ≡ q → AfterBack b bs ts
    minus k m = (
      [],
      b ∷ bs,
      refl,
      tt,
      subst (λ z. AreMore (z ∷ bs) ts) (sym k)
          (signed false bs ts (at_spot (BeforeName, false) q bs ts m h)),
    )

pub back : (p : Stage) (s : Bool) (b : ℕ) (bs : List ℕ) (ts : List Term) (q : Spot) → step p s b ≡ Some q
    → At q.0 q.1 bs ts
    → At p s (b ∷ bs) (begun p s b bs ++ ts)
unfolding AfterBack
back AfterName s b bs ts q e h = after_back s b bs ts q e h
back InName s b bs ts q e h = elim (bool_cases (is_name_byte b)) [
  | inl k ↦ name k (spot_is (InName, s) q (rw k at e))
  | inr k ↦ (let j = after_back s b bs ts q (rw k at e) h in ([], j.0, j.1, j.2, tt, j.3, j.4))
]
  where
    name : is_name_byte b ≡ true → (InName, s) ≡ q → At InName s (b ∷ bs) ts
    name k m = let j = at_spot (InName, s) q bs ts m h in
        (b ∷ j.0, j.1, j.2, ap (λ z. b ∷ z) j.3, (k, j.4), j.5, j.6)
back BeforeName s b bs ts q e h = search (rules, bool_cases, blank_not_name, at_spot, spot_is, none, blank, name)
  where
    none : None ≡ Some q → ⊥
    none z = cc

    blank : is_blank b ≡ true → (ts : List Term) → At BeforeName s bs ts → At BeforeName s (b ∷ bs) ts
    blank k [] j = j
    blank k (t ∷ ts) j = (
      j.0,
      b ∷ j.1,
      j.2,
      ap (λ z. b ∷ z) j.3,
      record {
        before = b ∷ j.4.before;
        after = j.4.after;
        spelled = ap (λ z. b ∷ z) j.4.spelled;
        blanks_before = (k, j.4.blanks_before);
        blanks_after = j.4.blanks_after;
        named = j.4.named;
        some = j.4.some;
      },
      j.5,
    )

    name : is_name_byte b ≡ true → At InName s bs ts → At BeforeName s (b ∷ bs) (record { adds = s; name = b ∷ name_run bs } ∷ ts)
    name k j =
        let run : name_run bs ≡ j.0 = ap name_run j.3 ∙ whole_run j.0 (j.1 ++ j.2) j.4 (tail_no_name j.1 j.2 ts j.5 j.6) in (
          refl,
          b ∷ j.0 ++ j.1,
          j.2,
          ap (λ z. b ∷ z) (j.3 ∙ sym (append_assoc j.0 j.1 j.2)),
          record {
            before = [];
            after = j.1;
            spelled = ap (λ z. b ∷ z ++ j.1) (sym run);
            blanks_before = tt;
            blanks_after = j.5;
            named = (k, subst (Each is_name_byte) (sym run) j.4);
            some = omega arith;
          },
          j.6,
        )

-- ---- fronts

unfoldable pub run_all : Stage → Bool → List ℕ → Option Spot
run_all p s [] = Some (p, s)
run_all p s (b ∷ bs) = option_and_then (λ (q : Spot). run_all q.0 q.1 bs) (step p s b)

pub front_runs : (p : Stage) (s : Bool) (bs more : List ℕ) (ts : List Term) → At p s (bs ++ more) ts
    → (q : Spot) × (run_all p s bs ≡ Some q)
unfolding run_all
front_runs p s [] more ts h = ((p, s), refl)
front_runs p s (b ∷ bs) more ts h =
    let o = onward p s b (bs ++ more) ts h in
    let r = front_runs o.0.0 o.0.1 bs more o.1 o.4 in
    (r.0, rw o.2 r.1)

-- the shortest name
one_name : IsSpaced (97 ∷ []) (97 ∷ [])
unfolding is_name_byte is_word_byte
one_name =
    record { before = []; after = []; spelled = refl; blanks_before = tt; blanks_after = tt; named = (refl, tt); some = omega arith }

pub runs_front : (p : Stage) (s : Bool) (bs : List ℕ) (q : Spot) → run_all p s bs ≡ Some q
    → (more : List ℕ) × (ts : List Term)
    × At p s (bs ++ more) ts
unfolding run_all
runs_front BeforeName s [] q e = (
  97 ∷ [],
  record { adds = s; name = 97 ∷ [] } ∷ [],
  (refl, 97 ∷ [], [], refl, one_name, refl),
)
runs_front InName s [] q e = ([], [], ([], [], [], refl, tt, tt, refl))
runs_front AfterName s [] q e = ([], [], ([], [], refl, tt, refl))
runs_front p s (b ∷ bs) q e = by_step (λ r m. runs_front r.0 r.1 bs q m) (step p s b) refl e
  where
    by_step : ((r : Spot) → run_all r.0 r.1 bs ≡ Some q → (more : List ℕ) × (ts : List Term) × At r.0 r.1 (bs ++ more) ts)
        → (o : Option Spot) → step p s b ≡ o → option_and_then (λ (q : Spot). run_all q.0 q.1 bs) o ≡ Some q
        → (more : List ℕ) × (ts : List Term)
        × At p s (b ∷ bs ++ more) ts
    by_step again None k m = cc
    by_step again (Some r) k m = let f = again r m in (f.0, begun p s b (bs ++ f.0) ++ f.1, back p s b (bs ++ f.0) f.1 r k f.2)

-- ---- the walk

abbrev pub meant : Lookup → (Attr → Bool) → List Term → Attr → Bool
meant look acc [] = acc
meant look acc (t ∷ ts) = meant look (apply t.adds (look t.name) acc) ts

known_all : (look : Lookup) (acc known : Attr → Bool) (gs ts : List Term) → taken look acc gs ≡ Some known
    → AllKnown look ts
    → AllKnown look (gs ++ ts) × (meant look acc (gs ++ ts) ≡ meant look known ts)
known_all look acc known [] ts e h = (h, ap (λ z. meant look z ts) (let k : acc ≡ known = cc in k))
known_all look acc known (g ∷ gs) ts e h = by_name (λ a e. known_all look a known gs ts e h) (look g.name) refl e
  where
    by_name : ((a : Attr → Bool) → taken look a gs ≡ Some known → AllKnown look (gs ++ ts)
        × (meant look a (gs ++ ts) ≡ meant look known ts))
        → (o : Option (Attr → Bool)) → look g.name ≡ o
        → option_and_then (λ set. taken look (apply g.adds (Some set) acc) gs) o ≡ Some known
        → (IsSome (look g.name) × AllKnown look (gs ++ ts)) × (meant look (apply g.adds (look g.name) acc) (gs ++ ts) ≡ meant look known ts)
    by_name again None k m = cc
    by_name again (Some set) k m = let r = again (apply g.adds (Some set) acc) m in ((rw k refl, r.0), rw k r.1)

-- what the walk answers is the meaning of an expression
pub walked : (look : Lookup) (acc : Attr → Bool) (p : Stage) (s : Bool) (i : ℕ) (bs : List ℕ) (m : Attr → Bool)
    → walk look acc p s i bs ≡ Ok m
    → (ts : List Term) × At p s bs ts × AllKnown look ts × (m ≡ meant look acc ts)
unfolding walk
walked look acc BeforeName s i [] m e = cc
walked look acc InName s i [] m e = ([], ([], [], [], refl, tt, tt, refl), tt, (let k : acc ≡ m = cc in sym k))
walked look acc AfterName s i [] m e = ([], ([], [], refl, tt, refl), tt, (let k : acc ≡ m = cc in sym k))
walked look acc p s i (b ∷ bs) m e =
    by_byte (λ q known e. walked look known q.0 q.1 (i + 1) bs m e) (step p s b) refl (taken look acc (begun p s b bs)) refl e
  where
    by_byte : ((q : Spot) (known : Attr → Bool) → walk look known q.0 q.1 (i + 1) bs ≡ Ok m → (ts : List Term) × At q.0 q.1 bs ts
        × AllKnown look ts
        × (m ≡ meant look known ts))
        → (o : Option Spot) → step p s b ≡ o → (k : Option (Attr → Bool)) → taken look acc (begun p s b bs) ≡ k
        → after_byte o k i (λ q known. walk look known q.0 q.1 (i + 1) bs) ≡ Ok m
        → (ts : List Term) × At p s (b ∷ bs) ts × AllKnown look ts
        × (m ≡ meant look acc ts)
    by_byte again None x k y e = cc
    by_byte again (Some q) x None y e = cc
    by_byte again (Some q) x (Some known) y e =
        let r = again q known e in
        let n = known_all look acc known (begun p s b bs) r.0 y r.2 in
        (begun p s b bs ++ r.0, back p s b bs r.0 q x r.1, n.0, r.3 ∙ sym n.1)

-- ---- the last term that has the attribute decides

apply_at : (adds : Bool) (o : Option (Attr → Bool)) (acc : Attr → Bool) (a : Attr)
    → apply adds o acc a ≡ cond (set_has o a) adds (acc a)
apply_at adds None acc a = refl
apply_at true (Some set) acc a = search rules
apply_at false (Some set) acc a = search rules

meant_keep : (look : Lookup) (ts : List Term) (acc : Attr → Bool) (a : Attr) → NoneHas look a ts
    → meant look acc ts a ≡ acc a
meant_keep look [] acc a h = refl
meant_keep look (t ∷ ts) acc a h =
    meant_keep look ts _ a h.1 ∙ apply_at t.adds (look t.name) acc a ∙ ap (λ b. cond b t.adds (acc a)) h.0

meant_to : (look : Lookup) (ts : List Term) (acc : Attr → Bool) (a : Attr)
    → (earlier : List Term) (t : Term) (later : List Term)
    → ts ≡ earlier ++ t ∷ later
    → t.adds ≡ true → set_has (look t.name) a ≡ true → NoneHas look a later → meant look acc ts a ≡ true
meant_to look ts acc a [] t later e h k n = search (rules, meant, meant_keep, apply_at)
meant_to look [] acc a (u ∷ earlier) t later e h k n = cc
meant_to look (v ∷ ts) acc a (u ∷ earlier) t later e h k n =
    meant_to look ts _ a earlier t later (let f : ts ≡ earlier ++ t ∷ later = cc in f) h k n

meant_from : (look : Lookup) (ts : List Term) (acc : Attr → Bool) (a : Attr) → meant look acc ts a ≡ true
    → IsMeant look ts a
    ⊎ ((acc a ≡ true) × NoneHas look a ts)
meant_from look [] acc a h = inr (h, tt)
meant_from look (t ∷ ts) acc a h = elim (meant_from look ts (apply t.adds (look t.name) acc) a h) [
  | inl m ↦ inl (t ∷ m.0, m.1, m.2, ap (λ z. t ∷ z) m.3, m.4, m.5, m.6)
  | inr m ↦ elim (bool_cases (set_has (look t.name) a)) [
    | inl k ↦ inl ([], t, ts, refl, ap (λ b. cond b t.adds (acc a)) (sym k) ∙ sym (apply_at t.adds (look t.name) acc a) ∙ m.0, k, m.1)
    | inr k ↦ inr (ap (λ b. cond b t.adds (acc a)) (sym k) ∙ sym (apply_at t.adds (look t.name) acc a) ∙ m.0, (k, m.1))
  ]
]

pub meant_is : (look : Lookup) (ts : List Term) (a : Attr) → (meant look (λ _. false) ts a ≡ true) ↔ IsMeant look ts a
meant_is look ts a = search (rules, meant_from, meant_to)

pub to_expression : (text : List ℕ) (ts : List Term) → At BeforeName true text ts → IsExpression text ts
to_expression text [] h = h
to_expression text (t ∷ ts) h = h

-- the answer of a walk that starts at the front
pub is_meaning : (look : Lookup) (text : List ℕ) (set : AttrSet)
    → walk look (λ _. false) BeforeName true 0 text ≡ Ok (has set)
    → IsMeaning look text set
is_meaning look text set e =
    let w = walked look (λ _. false) BeforeName true 0 text (has set) e in (
      w.0,
      to_expression text w.0 w.1,
      w.2,
      λ a. (
        (λ h. (meant_is look w.0 a).0 (ap (λ f. f a) (sym w.3) ∙ h)),
        (λ h. ap (λ f. f a) w.3
            ∙ (meant_is look w.0 a).1 h),
      ),
    )

-- ---- faults

pub step_named : (p : Stage) (s : Bool) (b : ℕ) (q : Spot) → step p s b ≡ Some q → is_name_byte b ≡ true → q.0 ≡ InName
step_named BeforeName s b q e h = sym (stage_is InName s q (rw (name_not_blank b h, h) at e))
step_named InName s b q e h = sym (stage_is InName s q (rw h at e))
step_named AfterName s b q e h = named_after s b q e h
  where
    sign_apart : (n : ℕ) → is_name_byte n ≡ false → (b == n) ≡ false
    sign_apart n k =
        elim (bool_cases (b == n)) [
          | inl m ↦ (let same : b ≡ n = eqb-true b n m in let f : is_name_byte n ≡ true = rw (← same) h in
              cc)
          | inr m ↦ m
        ]

    named_after : (s : Bool) (b' : ℕ) (q : Spot) → after_step s b ≡ Some q → is_name_byte b ≡ true → q.0 ≡ InName
    named_after s b' q e h = absurd (none (rw (name_not_blank b h, sign_apart 43 (sign_not_name true), sign_apart 45 (sign_not_name false))
        at e))
      where
        none : None ≡ Some q → ⊥
        none z = cc

-- ---- what the code does at a byte

pub at_none : (look : Lookup) (acc : Attr → Bool) (p : Stage) (s : Bool) (i : ℕ) (bs : List ℕ) → 0 < length bs
    → step p s (get_or bs 0 0) ≡ None
    → walk look acc p s i bs ≡ Err (BadExpression i)
unfolding walk
at_none look acc p s i [] h k = absurd (omega arith)
at_none look acc p s i (b ∷ bs) h k = rw k refl

pub at_unknown : (look : Lookup) (acc : Attr → Bool) (p : Stage) (s : Bool) (i : ℕ) (bs : List ℕ) (q : Spot)
    → 0 < length bs
    → step p s (get_or bs 0 0) ≡ Some q → p ≡ BeforeName → is_name_byte (get_or bs 0 0) ≡ true
    → taken look acc (record { adds = s; name = name_run bs } ∷ []) ≡ None → walk look acc p s i bs ≡ Err (UnknownName i)
unfolding walk
at_unknown look acc p s i [] q h k w n t = absurd (omega arith)
at_unknown look acc BeforeName s i (b ∷ bs) q h k w n t =
    let t' : taken look acc (record { adds = s; name = b ∷ name_run bs } ∷ []) ≡ None = rw n at t in rw (k, n, t') refl
at_unknown look acc _ s i (b ∷ bs) q h k w n t = cc

pub at_named : (look : Lookup) (acc : Attr → Bool) (p : Stage) (s : Bool) (i : ℕ) (bs : List ℕ) (q : Spot) (known : Attr → Bool)
    → 0 < length bs
    → step p s (get_or bs 0 0) ≡ Some q → p ≡ BeforeName → is_name_byte (get_or bs 0 0) ≡ true
    → taken look acc (record { adds = s; name = name_run bs } ∷ []) ≡ Some known
    → walk look acc p s i bs ≡ walk look known q.0 q.1 (i + 1) (drop 1 bs)
unfolding walk
at_named look acc p s i [] q known h k w n t = absurd (omega arith)
at_named look acc BeforeName s i (b ∷ bs) q known h k w n t =
    let t' : taken look acc (record { adds = s; name = b ∷ name_run bs } ∷ []) ≡ Some known = rw n at t in rw (k, n, t') refl
at_named look acc _ s i (b ∷ bs) q known h k w n t = cc

pub at_plain : (look : Lookup) (acc : Attr → Bool) (p : Stage) (s : Bool) (i : ℕ) (bs : List ℕ) (q : Spot)
    → 0 < length bs
    → step p s (get_or bs 0 0) ≡ Some q → (p ≡ BeforeName → is_name_byte (get_or bs 0 0) ≡ false)
    → walk look acc p s i bs ≡ walk look acc q.0 q.1 (i + 1) (drop 1 bs)
unfolding walk
at_plain look acc p s i [] q h k n = absurd (omega arith)
at_plain look acc BeforeName s i (b ∷ bs) q h k n = rw (k, n refl) refl
at_plain look acc _ s i (b ∷ bs) q h k n = rw k refl

-- the end of the text
pub ends_wanting_more : (look : Lookup) (acc : Attr → Bool) (p : Stage) (s : Bool) (text : List ℕ) (i : ℕ)
    → length text ≤ i → i ≤ length text
    → p ≡ BeforeName → walk look acc p s i (drop i text) ≡ Err (BadExpression (length text))
unfolding walk
ends_wanting_more look acc p s text i h k w =
    rw (drop_all i text h, w) (let e : i ≡ length text = omega arith in ap (λ z. Err (BadExpression z)) e)

pub not_before : (p : Stage) → (p ≡ InName) ⊎ (p ≡ AfterName) → p ≡ BeforeName → ⊥
not_before p (inl e) w = cc
not_before p (inr e) w = cc

pub ends_well : (look : Lookup) (acc : Attr → Bool) (p : Stage) (s : Bool) (text : List ℕ) (i : ℕ) → length text ≤ i
    → (p ≡ BeforeName → ⊥)
    → walk look acc p s i (drop i text) ≡ Ok acc
unfolding walk
ends_well look acc p s text i h w = search (rules, drop_all)
