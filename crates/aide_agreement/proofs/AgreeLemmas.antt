-- Two entries agree by how they differ.
use Rattle.std.proofs.Common.{◌≡◌, ◌∙◌, Bool, true, false, refl, sym, ap}
use Rattle.std.specs.Prelude.{◌||◌, ◌&&◌, not}
use Rattle.aide_attr.specs.Difference.{Sides, sides_of}
use Rattle.aide_attr.specs.declared.attr.Attr.{Attr}
use Rattle.aide_attr.specs.declared.delta.Delta.{Delta}
use Rattle.aide_fields.specs.Attributes.{Attributes, sides_between}
use Rattle.aide_agreement.specs.Agreement.{agree, agree_by, are_same_by, have_targets, says_rights}
use Rattle.aide_agreement.specs.Trusted.{changed_by, changed_too}

-- two entries differ as the difference between them says
pub same_sides : (d : Delta) (x y : Attributes)
    → ((a : Attr) → (sides_of d).in_old a ≡ (sides_between x y).in_old a)
    → ((a : Attr) → (sides_of d).in_new a ≡ (sides_between x y).in_new a)
    → ((a : Attr) → (sides_of d).differs a ≡ (sides_between x y).differs a)
    → (sides_of d).size ≡ (sides_between x y).size → (sides_of d).old_type ≡ (sides_between x y).old_type
    → (sides_of d).new_type ≡ (sides_between x y).new_type
    → sides_of d ≡ sides_between x y
same_sides d x y in_old in_new differs size old_type new_type i = record {
  in_old = λ a. in_old a i;
  in_new = λ a. in_new a i;
  differs = λ a. differs a i;
  size = size i;
  old_type = old_type i;
  new_type = new_type i;
}

module _ (s : Sides) (x y : Attributes) (same : s ≡ sides_between x y) where
  by_sides : agree_by s (have_targets x y) ≡ agree x y
  unfolding agree
  by_sides = ap (λ t. agree_by t (have_targets x y)) same

  -- entries that say who may do what agree if they are the same
  pub agree_then : (result targets : Bool) → targets ≡ have_targets x y → true ≡ says_rights s.in_old
      → result ≡ are_same_by s.old_type s targets → result ≡ agree x y
  agree_then result targets t says is =
      is ∙ (ap (λ b. b && are_same_by s.old_type s targets) says ∙ (ap (agree_by s) t ∙ by_sides))

  -- others do not agree
  pub agree_else : (result : Bool) → result ≡ says_rights s.in_old → false ≡ says_rights s.in_old → result ≡ agree x y
  agree_else result is says =
      is ∙ (sym says ∙ (ap (λ b. b && are_same_by s.old_type s (have_targets x y)) says ∙ by_sides))

-- what changed here changed on a trusted machine too as these say
pub changed_sides : (old new before there : Attributes) (s t u : Sides) (result here_targets there_targets : Bool)
    → s ≡ sides_between old new → t ≡ sides_between old before → u ≡ sides_between before there
    → here_targets ≡ have_targets old new → there_targets ≡ have_targets before there
    → result ≡ changed_by s t u here_targets there_targets → result ≡ changed_too old new before there
unfolding changed_too
changed_sides old new before there s t u result x y e f g h i is =
    is ∙ (λ j. changed_by (e j) (f j) (g j) (h j) (i j))

pub stray_at : (changed missing digest own : Bool) (a b c d : Bool) → changed ≡ a → missing ≡ b → digest ≡ c → own ≡ d
    → ((changed || (missing && not digest)) && not own) ≡ ((a || (b && not c)) && not d)
stray_at changed missing digest own a b c d e f g h = rw (e, f, g, h) refl

pub both_and : (a b c d : Bool) → a ≡ c → b ≡ d → (a && b) ≡ (c && d)
both_and a b c d e f = rw (e, f) refl

pub both_or : (a b c d : Bool) → a ≡ c → b ≡ d → (a || b) ≡ (c || d)
both_or a b c d e f = rw (e, f) refl
