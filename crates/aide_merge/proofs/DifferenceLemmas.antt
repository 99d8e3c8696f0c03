-- What is reported and shown of a difference, by tests that agree.
use Rattle.std.specs.Prelude.{◌≡◌, Bool, true, false, not, IsTrue, ◌↔◌}
use Rattle.std.proofs.Common.{refl, sym, ◌∙◌}
use Rattle.aide_attr.specs.declared.attr.Attr.{Attr}
use Rattle.aide_attr.specs.declared.delta.Ignore.{Ignore}
use Rattle.aide_attr.specs.declared.level.Level.{Level}
use Rattle.aide_attr.specs.declared.set.AttrSet.{AttrSet}
use Rattle.aide_attr.specs.Set.{has}
use Rattle.aide_attr.specs.Difference.{Sides, is_reported, is_shown, any_reported}
use Rattle.aide_attr.proofs.DifferenceLemmas.{any_from, none_from}
use Rattle.aide_fields.specs.Attributes.{Attributes, sides_between}
use Rattle.aide_merge.specs.Changed.{differ_by}

-- what is reported at an attribute is told by three tests there
same_reported : (s t : Sides) (i : Ignore) (a : Attr) → s.in_old a ≡ t.in_old a → s.in_new a ≡ t.in_new a
    → s.differs a ≡ t.differs a → is_reported s i a ≡ is_reported t i a
same_reported s t i a old new other = rw (old, new, other) refl

from_empty : (s : Sides) (i : Ignore) (r : AttrSet) (empty : Bool) → ((a : Attr) → has r a ≡ is_reported s i a)
    → (IsTrue empty ↔ ((a : Attr) → has r a ≡ false)) → not empty ≡ any_reported s i
from_empty s i r true same tells = sym (none_from s i r same (tells.0 refl))
from_empty s i r false same tells = sym (any_from s i r same (λ h. let e = tells.1 h in cc))

pub differ_from : (s : Sides) (old new : Attributes) (i : Ignore) (r : AttrSet) (empty : Bool)
    → ((a : Attr) → s.in_old a ≡ (sides_between old new).in_old a)
    → ((a : Attr) → s.in_new a ≡ (sides_between old new).in_new a)
    → ((a : Attr) → s.differs a ≡ (sides_between old new).differs a)
    → ((a : Attr) → has r a ≡ is_reported s i a) → (IsTrue empty ↔ ((a : Attr) → has r a ≡ false))
    → not empty ≡ differ_by i old new
unfolding differ_by
differ_from s old new i r empty in_old in_new differs same tells =
    from_empty (sides_between old new) i r empty (λ a. same a
    ∙ same_reported s (sides_between old new) i a (in_old a) (in_new a) (differs a)) tells

-- the sizes and types have no part in what details show
pub same_shown : (s t : Sides) (ignore : Ignore) (level : Level) (a : Attr)
    → ((b : Attr) → s.in_old b ≡ t.in_old b) → ((b : Attr) → s.in_new b ≡ t.in_new b)
    → ((b : Attr) → s.differs b ≡ t.differs b) → is_shown s ignore level a ≡ is_shown t ignore level a
same_shown s t ignore level a in_old in_new differs i = is_shown (record {
  in_old = λ b. in_old b i;
  in_new = λ b. in_new b i;
  differs = λ b. differs b i;
  size = s.size;
  old_type = s.old_type;
  new_type = s.new_type;
}) ignore level a
