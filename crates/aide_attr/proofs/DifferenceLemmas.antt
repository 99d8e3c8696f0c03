-- Sets of attributes by lists of them.
use Rattle.std.proofs.lemmas.Grind.{common_steps}
use Rattle.std.proofs.Common.{ℕ, ◌<◌, ◌≡◌, Bool, true, false, List, [], ◌∷◌, suc, length, refl, sym, ap, ◌∙◌}
use Rattle.std.proofs.Common.{arith, get_or, inl, inr, rules}
use Rattle.std.specs.Prelude.{◌||◌, ◌&&◌, not, map, IsTrue, ◌↔◌}
use Rattle.std.proofs.lemmas.Bool.{eqb-true, eq-eqb, false_from_ne_true, both_ways, or_parts}
use Rattle.std.specs.List.{list_any}
use Rattle.std.proofs.lemmas.List.Folds.{list_any_at}
use Rattle.aide_attr.specs.declared.attr.Attr.{Attr}
use Rattle.aide_attr.specs.declared.set.AttrSet.{AttrSet}
use Rattle.aide_attr.specs.declared.delta.Ignore.{Ignore}
use Rattle.aide_attr.specs.Attr.{index, all_attrs, count}
use Rattle.aide_attr.specs.Set.{has, is_attr}
use Rattle.aide_attr.specs.Difference.{Sides, is_reported, any_reported}
use Rattle.aide_attr.proofs.AttrLemmas.{at_index, index_small}
use Rattle.aide_attr.proofs.WalkLemmas.{bool_cases}

-- a set and a test that agree
pub any_has : (s : AttrSet) (p : Attr → Bool) (xs : List Attr) → ((a : Attr) → has s a ≡ p a)
    → list_any (has s) xs ≡ list_any p xs
any_has s p [] h = refl
any_has s p (x ∷ xs) h = rw (h x, any_has s p xs h) refl

-- a test that none of a list passes, no element passes
pub none_any : (p : Attr → Bool) (xs : List Attr) (k : ℕ) (d : Attr) → list_any p xs ≡ false → k < length xs
    → p (get_or xs k d) ≡ false
none_any p xs k d h l = false_from_ne_true (p (get_or xs k d)) (λ e. both_ways (list_any p xs) h (list_any_at p xs k d l e))

-- a list whose elements are those of another under a function
pub filled : (f : ℕ → ℕ) (slots letters : List ℕ) → length letters ≡ length slots
    → ((k : ℕ) → k < length slots → get_or letters k 0 ≡ f (get_or slots k 0)) → letters ≡ map f slots
filled f [] [] e h = refl
filled f [] (l ∷ letters) e h = absurd (omega arith)
filled f (p ∷ slots) [] e h = absurd (omega arith)
filled f (p ∷ slots) (l ∷ letters) e h =
    rw (h 0 (omega arith), filled f slots letters (omega arith) (λ k below. h (suc k) (omega arith))) refl

-- attributes with one index are one
pub attr_is : (a b : Attr) → is_attr a b ≡ true → a ≡ b
attr_is a b e = sym (at_index a a) ∙ ap (λ n. get_or all_attrs n a) (eqb-true (index a) (index b) e) ∙ at_index b a

-- ---- a set that has the attributes of a list

either : (a b : Bool) → (a || b) ≡ true → (a ≡ false → b ≡ true)
either true b h f = cc
either false b h f = h

none_listed : (p : Attr → Bool) (xs : List Attr) → list_any p xs ≡ false → (a : Attr)
    → list_any (is_attr a) xs ≡ true → p a ≡ false
none_listed p [] h a l = cc
none_listed p (x ∷ xs) h a l = elim (bool_cases (is_attr a x)) [
  | inl e ↦ ap p (attr_is a x e) ∙ none_any p (x ∷ xs) 0 x h (omega arith)
  | inr e ↦ none_listed p xs (or_parts (p x) (list_any p xs) h).1 a (either (is_attr a x) (list_any (is_attr a) xs) l e)
]

all_none : (p : Attr → Bool) (xs : List Attr) → ((a : Attr) → list_any (is_attr a) xs ≡ true → p a ≡ false)
    → list_any p xs ≡ false
all_none p [] h = refl
all_none p (x ∷ xs) h =
    rw (h x (ap (λ b. b || list_any (is_attr x) xs) (eq-eqb (index x) (index x) refl)))
    (all_none p xs (λ a l. h a (ap (λ b. is_attr a x || b) l ∙ or_true (is_attr a x))))
  where
    or_true : (b : Bool) → (b || true) ≡ true
    or_true true = refl
    or_true false = refl

-- a set has any of the list exactly where it meets that set
pub meets : (set here both : AttrSet) (xs : List Attr) (empty : Bool) → ((a : Attr) → has here a ≡ list_any (is_attr a) xs)
    → ((a : Attr) → has both a ≡ (has set a && has here a)) → (IsTrue empty ↔ ((a : Attr) → has both a ≡ false))
    → not empty ≡ list_any (has set) xs
meets set here both xs true listed common tells = search (rules, all_none)
meets set here both xs false listed common tells = search (rules, bool_cases, none_listed)

-- what no listed attribute has, none has
pub any_from : (s : Sides) (i : Ignore) (r : AttrSet) → ((a : Attr) → has r a ≡ is_reported s i a)
    → (((a : Attr) → has r a ≡ false) → ⊥)
    → any_reported s i ≡ true
unfolding count
any_from s i r h k = elim (bool_cases (any_reported s i)) [
  | inl e ↦ e
  | inr e ↦ absurd (k (λ a. h a ∙ ap (is_reported s i) (sym (at_index a a))
      ∙ none_any (is_reported s i) all_attrs (index a) a e (index_small a)))
]

pub none_from : (s : Sides) (i : Ignore) (r : AttrSet) → ((a : Attr) → has r a ≡ is_reported s i a)
    → ((a : Attr) → has r a ≡ false)
    → any_reported s i ≡ false
none_from s i r h k = grind (arith, common_steps)
