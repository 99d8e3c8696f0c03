-- Two values at one attribute: whether entries stray from each other there, and what they share.
use Rattle.std.proofs.Common.{◌≡◌, ◌≢◌, ◌∙◌, Bool, true, false, refl, sym, ap, inl, inr, rules}
use Rattle.std.proofs.lemmas.Bool.{both_ways}
use Rattle.aide_attr.proofs.WalkLemmas.{bool_cases}
use Rattle.std.specs.Prelude.{◌||◌, ◌&&◌, not, Option, Some, None, is_some}
use Rattle.aide_attr.specs.declared.attr.Attr.TheVariants.{Lname}
use Rattle.aide_fields.specs.Attributes.{Attributes, Value, link_value}
use Rattle.aide_fields.specs.Attributes.{is_different}
use Rattle.aide_fields.proofs.ValueLaws.{same_value-Decides}
use Rattle.aide_agreement.specs.Agreement.{has_target}
use Rattle.aide_agreement.specs.Meaning.{HasTarget}

-- whether two entries with these values stray from each other at an attribute
abbrev pub stray_of : (x y : Option Value) (digest own : Bool) → Bool
stray_of x y digest own =
    ((is_different x y && is_some x && is_some y)
    || (((is_some y && not (is_some x)) || (is_some x && not (is_some y))) && not digest)) && not own

-- whether they have the same value
abbrev pub same_of : (x y : Option Value) → Bool
same_of x y = is_some x && is_some y && not (is_different x y && is_some x && is_some y)

negated : (b : Bool) → not b ≡ false → b ≡ true
negated true e = refl
negated false e = cc

pub equal_values : (u v : Value) → is_different (Some u) (Some v) ≡ false → u ≡ v
equal_values u v e = (same_value-Decides u v).0 (negated _ e)

never : (u : Value) → is_different (Some u) (Some u) ≡ false
never u = rw ((same_value-Decides u u).1 refl) refl

same_by : (d digest own : Bool) → own ≡ false
    → (((d && true && true) || (((true && not true) || (true && not true)) && not digest)) && not own) ≡ false
    → d ≡ false
same_by true true false o e = cc
same_by true false false o e = cc
same_by false digest own o e = refl
same_by true _ true o e = cc

both_at : (u v : Value) (digest own : Bool) → own ≡ false → stray_of (Some u) (Some v) digest own ≡ false → u ≡ v
both_at u v digest own o e = equal_values u v (same_by (is_different (Some u) (Some v)) digest own o e)

-- at an attribute that is neither a machine's own nor a digest, entries that do not stray have the same value or none
pub alike_at : (x y : Option Value) (digest own : Bool) → own ≡ false → digest ≡ false → stray_of x y digest own ≡ false
    → x ≡ y
alike_at None None digest own o d e = refl
alike_at None (Some v) true own o d e = cc
alike_at None (Some v) false true o d e = cc
alike_at None (Some v) false false o d e = cc
alike_at (Some u) None true own o d e = cc
alike_at (Some u) None false true o d e = cc
alike_at (Some u) None false false o d e = cc
alike_at (Some u) (Some v) digest own o d e = ap Some (both_at u v digest own o e)

-- a digest that both have is the same
pub digest_at : (x y : Option Value) (u v : Value) (digest own : Bool) → x ≡ Some u → y ≡ Some v → own ≡ false
    → stray_of x y digest own ≡ false → u ≡ v
digest_at x y u v digest own is_u is_v o e =
    both_at u v digest own o ((λ i. stray_of (sym is_u i) (sym is_v i) digest own) ∙ e)

-- what they share is one value
pub shared_at : (x y : Option Value) → same_of x y ≡ true → (v : Value) × (x ≡ Some v) × (y ≡ Some v)
shared_at None y e = cc
shared_at (Some u) None e = cc
shared_at (Some u) (Some v) e = (u, refl, ap Some (sym (equal_values u v (not_so (is_different (Some u) (Some v)) e))))
  where
    not_so : (d : Bool) → (true && true && not (d && true && true)) ≡ true → d ≡ false
    not_so true e = cc
    not_so false e = refl

pub same_from : (u : Value) → same_of (Some u) (Some u) ≡ true
same_from u = ap (λ d. true && true && not (d && true && true)) (never u)

-- entries of which neither lacks an attribute and that do not differ in it have the same value or none
pub unaffected_at : (x y : Option Value)
    → ((is_different x y && is_some x && is_some y) || (is_some y && not (is_some x)) || (is_some x && not (is_some y))) ≡ false
    → x ≡ y
unaffected_at None None e = refl
unaffected_at None (Some v) e = cc
unaffected_at (Some u) None e = cc
unaffected_at (Some u) (Some v) e = search (rules, equal_values)

-- whether two values differ, or only one is there
abbrev pub affected_of : (x y : Option Value) → Bool
affected_of x y =
    (is_different x y && is_some x && is_some y) || (is_some y && not (is_some x)) || (is_some x && not (is_some y))

pub unaffected_from : (x y : Option Value) → x ≡ y → affected_of x y ≡ false
unaffected_from x y e = search rules

pub affected_from : (x y : Option Value) → x ≢ y → affected_of x y ≡ true
affected_from x y apart = elim (bool_cases (affected_of x y)) [
  | inl is ↦ is
  | inr is ↦ absurd (apart (unaffected_at x y is))
]

pub affected_apart : (x y : Option Value) → affected_of x y ≡ true → x ≢ y
affected_apart x y is e = both_ways (affected_of x y) (unaffected_from x y e) is

-- whether both are there, and differ
abbrev pub changed_of : (x y : Option Value) → Bool
changed_of x y = is_different x y && is_some x && is_some y

pub apart_by : (u v : Value) → changed_of (Some u) (Some v) ≡ true → u ≢ v
apart_by u v e is =
    both_ways (changed_of (Some u) (Some u)) (ap (λ b. b && true && true) (never u))
    (ap (λ w. changed_of (Some u) (Some w)) is ∙ e)

pub differ_at : (x y : Option Value) → changed_of x y ≡ true
    → (u : Value) × (v : Value) × (x ≡ Some u) × (y ≡ Some v) × (u ≢ v)
differ_at None y e = cc
differ_at (Some u) None e = cc
differ_at (Some u) (Some v) e = (u, v, refl, refl, apart_by u v e)

pub differ_from : (x y : Option Value) (u v : Value) → x ≡ Some u → y ≡ Some v → u ≢ v → changed_of x y ≡ true
differ_from x y u v is_u is_v apart = (λ i. changed_of (is_u i) (is_v i)) ∙ by
  where
    by : changed_of (Some u) (Some v) ≡ true
    by = elim (bool_cases (is_different (Some u) (Some v))) [
      | inl e ↦ ap (λ b. b && true && true) e
      | inr e ↦ absurd (apart (equal_values u v e))
    ]

-- ---- and back

never_own : (b own : Bool) → own ≡ true → (b && not own) ≡ false
never_own true true o = refl
never_own false true o = refl
never_own b false o = cc

pub own_no_stray : (x y : Option Value) (digest own : Bool) → own ≡ true → stray_of x y digest own ≡ false
own_no_stray x y digest own o = never_own _ own o

pub alike_no_stray : (x y : Option Value) (digest own : Bool) → x ≡ y → stray_of x y digest own ≡ false
alike_no_stray x y digest own e = search (rules, stray_of)

pub digest_no_stray : (x y : Option Value) (digest own : Bool) → digest ≡ true
    → ((u v : Value) → x ≡ Some u → y ≡ Some v → u ≡ v) → stray_of x y digest own ≡ false
digest_no_stray None None true own d h = refl
digest_no_stray None (Some v) true own d h = refl
digest_no_stray (Some u) None true own d h = refl
digest_no_stray (Some u) (Some v) true own d h = alike_no_stray (Some u) (Some v) true own (ap Some (h u v refl refl))
digest_no_stray x y false own d h = cc

-- ---- targets

target_of : (e : Attributes) (o : Option Value) → e Lname ≡ o → has_target o ≡ true → HasTarget e
target_of e (Some (link_value (Some target))) is has = record { target = target; is = is }
target_of e _ is has = cc

pub target_at : (e : Attributes) → has_target (e Lname) ≡ true → HasTarget e
target_at e has = target_of e (e Lname) refl has

pub target_from : (e : Attributes) → HasTarget e → has_target (e Lname) ≡ true
target_from e h = ap has_target h.is
