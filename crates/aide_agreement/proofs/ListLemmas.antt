-- Whether some attribute passes a test.
use Rattle.std.proofs.Common.{◌≡◌, Bool, true, false, List, [], ◌∷◌, refl, sym, ap, ◌∙◌}
use Rattle.std.proofs.Common.{rules}
use Rattle.std.specs.Prelude.{◌||◌, not, IsTrue, ◌↔◌}
use Rattle.std.specs.List.{list_any}
use Rattle.std.proofs.lemmas.List.Folds.{list_any_at}
use Rattle.aide_attr.proofs.DifferenceLemmas.{none_any}
use Rattle.aide_attr.specs.Attr.{index, all_attrs, count}
use Rattle.aide_attr.specs.Set.{has}
use Rattle.aide_attr.specs.declared.attr.Attr.{Attr}
use Rattle.aide_attr.specs.declared.set.AttrSet.{AttrSet}
use Rattle.aide_attr.proofs.AttrLemmas.{at_index, index_small}
use Rattle.aide_attr.proofs.WalkLemmas.{bool_cases}

right_true : (a b : Bool) → (a || b) ≡ true → a ≡ false → b ≡ true
right_true false b h is = h
right_true true b h is = cc

-- a test that no attribute passes, none of a list passes
pub none_of : (p : Attr → Bool) → ((a : Attr) → p a ≡ false) → (xs : List Attr) → list_any p xs ≡ false
none_of p h [] = refl
none_of p h (x ∷ xs) = rw (h x, none_of p h xs) refl

-- a test that none of the list of all passes, no attribute passes
pub none_at : (p : Attr → Bool) → list_any p all_attrs ≡ false → (a : Attr) → p a ≡ false
unfolding count
none_at p e a = ap p (sym (at_index a a)) ∙ none_any p all_attrs (index a) a e (index_small a)

-- a test that an attribute passes, one of the list of all passes
pub some_at : (p : Attr → Bool) (a : Attr) → p a ≡ true → list_any p all_attrs ≡ true
unfolding count
some_at p a e = list_any_at p all_attrs (index a) a (index_small a) (ap p (at_index a a) ∙ e)

-- a test that one of a list passes, some attribute passes
pub found_any : (p : Attr → Bool) (xs : List Attr) → list_any p xs ≡ true → (a : Attr) × (p a ≡ true)
found_any p [] e = absurd cc
found_any p (x ∷ xs) e = search (rules, found_any p xs, bool_cases, right_true)

some_of : (p : Attr → Bool) → (((a : Attr) → p a ≡ false) → ⊥) → list_any p all_attrs ≡ true
some_of p k = search (rules, bool_cases, none_at)

-- a set has an attribute exactly if one passes its test
pub any_in : (r : AttrSet) (p : Attr → Bool) (empty : Bool) → ((a : Attr) → has r a ≡ p a)
    → (IsTrue empty ↔ ((a : Attr) → has r a ≡ false)) → not empty ≡ list_any p all_attrs
any_in r p true same tells = sym (none_of p (λ a. sym (same a) ∙ tells.0 refl a) all_attrs)
any_in r p false same tells = sym (some_of p (λ h. let e = tells.1 (λ a. same a ∙ h a) in cc))

-- and it is empty exactly if none does
pub none_in : (r : AttrSet) (p : Attr → Bool) (empty : Bool) → ((a : Attr) → has r a ≡ p a)
    → (IsTrue empty ↔ ((a : Attr) → has r a ≡ false)) → empty ≡ not (list_any p all_attrs)
none_in r p true same tells = ap not (any_in r p true same tells)
none_in r p false same tells = ap not (any_in r p false same tells)
