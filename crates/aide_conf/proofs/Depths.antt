-- How many lines enclose a line.
use Rattle.std.proofs.Common.{rules, ℕ, ◌≡◌, ◌<◌, suc, zero, true, false, List, [], ◌∷◌, ◌++◌, length, refl, sym, ap}
use Rattle.std.proofs.Common.{subst, ◌∙◌, arith, inl, inr, ◌⊎◌, append_assoc}
use Rattle.std.proofs.lemmas.List.{length-append, append-nil}
use Rattle.aide_conf.specs.Blocks.{Seen, opens, Inside, IsClosed, IsInnermost, IsOutside, Encloses, AreEnclosing, AreFalling, IsOneOf}
use Rattle.aide_conf.proofs.BlockLemmas.{cut_at, opening, IsClosed-more, Settled, Settled-body}

Settled-inside : (w : List Seen) → Inside w → Settled w
Settled-inside w (inl h) = Settled-body false w h
Settled-inside w (inr h) = Settled-body true w h

-- an opening line that is not closed before another such line is not closed behind it
still_open : (o : Seen) (rest between : List Seen) → opens o.role ≡ true → ¬ IsClosed rest → ¬ IsClosed between
    → ¬ IsClosed (rest ++ o ∷ between)
still_open o rest between t no_rest no_between h = search (rules, cut_at, within)
  where
    within : (more : List Seen) → h.0 ≡ rest ++ more → o ∷ between ≡ more ++ h.1 ∷ h.2 → ⊥
    within [] e q = search (rules, opening)
    within (x ∷ more) e q =
        let same : x ≡ o = cc in
        let tail : between ≡ more ++ h.1 ∷ h.2 = cc in
        let inner : Inside (rest ++ o ∷ more) = subst Inside (e ∙ ap (λ z. rest ++ z ∷ more) same) h.5 in
        no_between (subst IsClosed (sym tail) (IsClosed-more more (h.1 ∷ h.2)
        ((Settled-inside (rest ++ o ∷ more) inner).ends rest o more refl t)))

module _ (here outer : List Seen) (o : Seen) (between : List Seen) (inner : IsInnermost here outer o between) where
  -- what encloses the line after all of them is the innermost opening line, or encloses that line
  enclosing : (i : ℕ) → Encloses here i → (i ≡ length outer) ⊎ Encloses outer i
  enclosing i h = elim (cut_at outer (o ∷ between) h.0 h.2 h.1 (sym inner.cut ∙ h.3)) [
    | inl p ↦ inr (h.0, h.1, p.0, p.1, h.4, h.5, λ c. h.6 (subst IsClosed (sym p.2) (IsClosed-more p.0 (o ∷ between) c)))
    | inr p ↦ inl (at_innermost p.0 p.1 p.2)
  ]
    where
      at_innermost : (more : List Seen) → h.0 ≡ outer ++ more → o ∷ between ≡ more ++ h.1 ∷ h.2 → i ≡ length outer
      at_innermost [] e q = sym h.4 ∙ ap length (e ∙ append-nil outer)
      at_innermost (x ∷ more) e q = search rules

  encloses_itself : Encloses here (length outer)
  encloses_itself = (outer, o, between, inner.cut, refl, inner.opening, inner.unclosed)

  encloses_more : (i : ℕ) → Encloses outer i → Encloses here i
  encloses_more i h = (
    h.0,
    h.1,
    h.2 ++ o ∷ between,
    inner.cut ∙ ap (λ z. z ++ o ∷ between) h.3 ∙ append_assoc h.0 (h.1 ∷ h.2) (o ∷ between),
    h.4,
    h.5,
    still_open o h.2 between inner.opening h.6 inner.unclosed,
  )

  shorter : length outer < length here
  shorter = omega (arith, ap length inner.cut, length-append outer (o ∷ between))

-- no line encloses a line outside all blocks
pub none_enclose : (here : List Seen) → IsOutside here → AreEnclosing zero here
none_enclose here h = ([], refl, tt, λ i. ((λ e. e.6 (h e.0 e.1 e.2 e.3 e.5)), (λ e. absurd e)))

-- one line more than those that enclose its innermost opening line
pub one_more_encloses : (n : ℕ) (here outer : List Seen) (o : Seen) (between : List Seen)
    → IsInnermost here outer o between → AreEnclosing n outer → AreEnclosing (suc n) here
one_more_encloses n here outer o between inner r = (
  length outer ∷ r.0,
  ap suc r.1,
  (shorter here outer o between inner, r.2),
  λ i. (
    (λ e. elim (enclosing here outer o between inner i e) [ inl k ↦ inl k | inr k ↦ inr ((r.3 i).0 k) ]),
    (λ e. elim e [
      | inl k ↦ subst (Encloses here) (sym k) (encloses_itself here outer o between inner)
      | inr k ↦ encloses_more here outer o between inner i ((r.3 i).1 k)
    ]),
  ),
)

-- ---- and no other number of them

below_first : (n i : ℕ) (is : List ℕ) → AreFalling n is → IsOneOf i is → i < n
below_first n i [] f h = absurd h
below_first n i (j ∷ js) f h = search (rules, below_first j i js f.1)

abbrev HaveSame : List ℕ → List ℕ → Type 0
HaveSame is js = (i : ℕ) → IsOneOf i is → IsOneOf i js

-- the first of one list is at most the first of the other
at_most : (i j : ℕ) (js : List ℕ) → AreFalling j js → IsOneOf i (j ∷ js) → i < suc j
at_most i j js f h = elim h [ inl e ↦ omega (arith, e) | inr k ↦ omega (arith, below_first j i js f k) ]

rest_same : (i : ℕ) (is js : List ℕ) → AreFalling i is → HaveSame (i ∷ is) (i ∷ js) → HaveSame is js
rest_same i is js f same k h = search (rules, below_first)

same_length : (is js : List ℕ) (m n : ℕ) → AreFalling m is → AreFalling n js → HaveSame is js → HaveSame js is
    → length is ≡ length js
same_length [] [] m n f g h k = refl
same_length [] (j ∷ js) m n f g h k = absurd (k j (inl refl))
same_length (i ∷ is) [] m n f g h k = absurd (h i (inl refl))
same_length (i ∷ is) (j ∷ js) m n f g h k =
    let e : j ≡ i = omega (arith, at_most i j js g.1 (h i (inl refl)), at_most j i is f.1 (k j (inl refl))) in
    let g_i = subst (λ x. AreFalling x js) e g.1 in
    let h_i = subst (λ x. HaveSame (i ∷ is) (x ∷ js)) e h in
    let k_i = subst (λ x. HaveSame (x ∷ js) (i ∷ is)) e k in
    ap suc (same_length is js i i f.1 g_i (rest_same i is js f.1 h_i) (rest_same i js is g_i k_i))

pub one_depth : (m n : ℕ) (here : List Seen) → AreEnclosing m here → AreEnclosing n here → m ≡ n
one_depth m n here h i =
    sym h.1 ∙ same_length h.0 i.0 (length here) (length here) h.2 i.2
    (λ k one. (i.3 k).0 ((h.3 k).1 one)) (λ k one. (h.3 k).0 ((i.3 k).1 one)) ∙ i.1
