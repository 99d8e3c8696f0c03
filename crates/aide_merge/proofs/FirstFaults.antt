-- A text has one first fault, and a run one right answer.
use Rattle.std.specs.Prelude.{◌≡◌, ℕ, ◌+◌, ◌⊎◌, true, Some, Result, Ok, Err, List, [], ◌∷◌, ◌++◌, length, nat_le}
use Rattle.std.proofs.Common.{refl, sym, ap, subst, ◌∙◌, inl, inr, append_assoc, rules}
use Rattle.aide_db.specs.Database.{IsFront, IsAtLine, IsFirstFault, fault_of, whole_lines}
use Rattle.aide_fields.specs.Text.{lines}
use Rattle.aide_db.specs.declared.fault.DbFault.{DbFault}
use Rattle.aide_entry.specs.declared.fault_kind.DbFaultKind.{DbFaultKind}
use Rattle.aide_db.specs.declared.limits.Limits.{Limits}
use Rattle.aide_db.specs.declared.side.Side.{Side}
use Rattle.aide_db.specs.declared.side.Side.TheVariants.{Old, New}
use Rattle.aide_db.proofs.MapLaws.{first_fault_unsound}
use Rattle.aide_merge.specs.RightAnswer.{RunsBy, IsFirstFaultOf}
use Rattle.aide_merge.proofs.AnswerLemmas.{true_false}

-- two cuts of a list at an element are one, or the first ends in the front of the second, or the other way round
record SameCut {X : Type 0} (xs : List X) (x : X) (zs : List X) (z : X) : Type 0 where
  fronts : xs ≡ zs
  elements : x ≡ z

record CutBefore {X : Type 0} (xs : List X) (x : X) (zs : List X) : Type 0 where
  more : List X
  longer : zs ≡ (xs ++ x ∷ []) ++ more

abbrev Cuts : {X : Type 0} → List X → X → List X → X → Type 0
Cuts xs x zs z = SameCut xs x zs z ⊎ (CutBefore xs x zs ⊎ CutBefore zs z xs)

head_of : {X : Type 0} (x z : X) (xs zs : List X) → x ∷ xs ≡ z ∷ zs → x ≡ z
head_of x z xs zs e = cc

tail_of : {X : Type 0} (x z : X) (xs zs : List X) → x ∷ xs ≡ z ∷ zs → xs ≡ zs
tail_of x z xs zs e = cc

cut_later : {X : Type 0} (y : X) (xs : List X) (x : X) (zs : List X) (z : X) → Cuts xs x zs z
    → Cuts (y ∷ xs) x (y ∷ zs) z
cut_later y xs x zs z c = search rules

cuts : {X : Type 0} (xs : List X) (x : X) (ys : List X) (zs : List X) (z : X) (ws : List X)
    → xs ++ x ∷ ys ≡ zs ++ z ∷ ws → Cuts xs x zs z
cuts [] x ys [] z ws e = inl (record { fronts = refl; elements = head_of x z ys ws e })
cuts [] x ys (u ∷ zs) z ws e =
    inr (inl (record { more = zs; longer = ap (λ v. v ∷ zs) (sym (head_of x u ys (zs ++ z ∷ ws) e)) }))
cuts (v ∷ xs) x ys [] z ws e =
    inr (inr (record { more = xs; longer = ap (λ u. u ∷ xs) (head_of v z (xs ++ x ∷ ys) ws e) }))
cuts (v ∷ xs) x ys (u ∷ zs) z ws e =
    subst (λ y. Cuts (v ∷ xs) x (y ∷ zs) z) (head_of v u (xs ++ x ∷ ys) (zs ++ z ∷ ws) e)
    (cut_later v xs x zs z (cuts xs x ys zs z ws (tail_of v u (xs ++ x ∷ ys) (zs ++ z ∷ ws) e)))

-- the first lines of what begins a database begin one
front_of : (limit : ℕ) (first more all : List (List ℕ)) → all ≡ first ++ more → IsFront limit all → IsFront limit first
front_of limit first more all is f = search (rules, append_assoc)

some_same : {X : Type 0} (x y : X) → Some x ≡ Some y → x ≡ y
some_same x y e = cc

abbrev Same : ℕ → DbFaultKind → ℕ → DbFaultKind → Type 0
Same m j n k = (m ≡ n) × (j ≡ k)

line_line : (limits : Limits) (text : List ℕ) (m : ℕ) (j : DbFaultKind) (n : ℕ) (k : DbFaultKind)
    → IsAtLine limits text m j → IsAtLine limits text n k → Same m j n k
line_line limits text m j n k f g = elim (cuts f.before f.line f.after g.before g.line g.after (sym f.parts ∙ g.parts)) [
  | inl same ↦ (
    f.number_is ∙ ap (λ ls. length ls + 1) same.fronts ∙ sym g.number_is,
    some_same j k (sym f.kind_is ∙ (λ i. fault_of limits.line (same.fronts i) (same.elements i)) ∙ g.kind_is),
  )
  | inr other ↦ elim other [
    | inl before ↦ absurd (f.bad (front_of limits.line (f.before ++ f.line ∷ []) before.more g.before before.longer g.good))
    | inr after ↦ absurd (g.bad (front_of limits.line (g.before ++ g.line ∷ []) after.more f.before after.longer f.good))
  ]
]

no_line : (limits : Limits) (text : List ℕ) (m : ℕ) (j : DbFaultKind) → IsAtLine limits text m j
    → IsFront limits.line (whole_lines limits text) → ⊥
no_line limits text m j f good =
    f.bad (front_of limits.line (f.before ++ f.line ∷ []) f.after (whole_lines limits text)
    (f.parts ∙ sym (append_assoc f.before (f.line ∷ []) f.after)) good)

whole_is : (limits : Limits) (text : List ℕ) → nat_le (length text) limits.bytes ≡ true
    → whole_lines limits text ≡ lines text
unfolding whole_lines
whole_is limits text e = rw e refl

one_fault : (limits : Limits) (text : List ℕ) (m : ℕ) (j : DbFaultKind) (n : ℕ) (k : DbFaultKind)
    → IsFirstFault limits text m j → IsFirstFault limits text n k → Same m j n k
one_fault limits text m j n k f g = elim f [
  | inl a ↦ elim g [
    | inl b ↦ line_line limits text m j n k a b
    | inr more ↦ elim more [
      | inl b ↦ absurd (no_line limits text m j a b.good)
      | inr b ↦ absurd (no_line limits text m j a (subst (IsFront limits.line) (sym (whole_is limits text b.whole)) b.good))
    ]
  ]
  | inr rest ↦ elim rest [
    | inl a ↦ elim g [
      | inl b ↦ absurd (no_line limits text n k b a.good)
      | inr more ↦ elim more [
        | inl b ↦ (a.number_is ∙ sym b.number_is, a.kind_is ∙ sym b.kind_is)
        | inr b ↦ absurd (true_false (sym b.whole ∙ a.long))
      ]
    ]
    | inr a ↦ elim g [
      | inl b ↦ absurd (no_line limits text n k b (subst (IsFront limits.line) (sym (whole_is limits text a.whole)) a.good))
      | inr more ↦ elim more [
        | inl b ↦ absurd (true_false (sym a.whole ∙ b.long))
        | inr b ↦ (a.number_is ∙ sym b.number_is, a.kind_is ∙ sym b.kind_is)
      ]
    ]
  ]
]

pub same_fault : (limits : Limits) (side : Side) (text : List ℕ) (f g : DbFault) → IsFirstFaultOf limits side text f
    → IsFirstFaultOf limits side text g → f ≡ g
same_fault limits side text f g a b =
    let same = one_fault limits text f.line f.kind g.line g.kind a.1 b.1 in
    let sides : f.side ≡ g.side = a.0 ∙ sym b.0 in
    λ i. record { side = sides i; line = same.0 i; kind = same.1 i }

-- a run has one right answer
pub RunsBy-unique : {X : Type 0} (limits : Limits) (over : List ℕ → List ℕ → X) (old new : List ℕ) (r s : Result X DbFault)
    → RunsBy limits over old new r → RunsBy limits over old new s → r ≡ s
RunsBy-unique limits over old new (Ok x) (Ok y) a b = ap Ok (a.2 ∙ sym b.2)
RunsBy-unique limits over old new (Ok x) (Err g) a b = absurd (elim b [
  | inl p ↦ first_fault_unsound limits old g.line g.kind p.1 a.0
  | inr p ↦ first_fault_unsound limits new g.line g.kind p.1.1 a.1
])
RunsBy-unique limits over old new (Err f) (Ok y) a b = absurd (elim a [
  | inl p ↦ first_fault_unsound limits old f.line f.kind p.1 b.0
  | inr p ↦ first_fault_unsound limits new f.line f.kind p.1.1 b.1
])
RunsBy-unique limits over old new (Err f) (Err g) a b = ap Err (elim a [
  | inl p ↦ elim b [
    | inl q ↦ same_fault limits Old old f g p q
    | inr q ↦ absurd (first_fault_unsound limits old f.line f.kind p.1 q.0)
  ]
  | inr p ↦ elim b [
    | inl q ↦ absurd (first_fault_unsound limits old g.line g.kind q.1 p.0)
    | inr q ↦ same_fault limits New new f g p.1 q.1
  ]
])
