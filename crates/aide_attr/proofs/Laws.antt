-- Laws of the definitions, which hold of any sets and any groups.
use Rattle.std.proofs.Common.{ℕ, ◌≡◌, ◌∙◌, true, false, List, Option, Some, refl, sym, ap, get_or}
use Rattle.std.specs.Prelude.{◌==◌, find, length, map, nat_eq, unwrap_or}
use Rattle.std.specs.Cmp.Lexicographic.{pointwise}
use Rattle.std.specs.List.{list_any, range_with_len}
use Rattle.aide_attr.specs.Attr.{all_attrs, row, row_of, name_of, detail_name_of, column_of, holder_of, attr_named}
use Rattle.aide_attr.specs.Attr.{attr_of_column, slot_of}
use Rattle.aide_attr.specs.declared.attr.Attr.{Attr}
use Rattle.aide_attr.specs.declared.attr.Attr.TheVariants as attr
use Rattle.aide_attr.specs.declared.set.AttrSet.{AttrSet}
use Rattle.aide_attr.specs.declared.expression.ExprFault.{ExprFault}
use Rattle.aide_attr.specs.declared.expression.Stage.TheVariants.{BeforeName}
use Rattle.aide_attr.specs.declared.level.Level.{Level}
use Rattle.aide_attr.specs.declared.level.Level.TheVariants as level
use Rattle.aide_attr.specs.declared.level.TheConstants.Level.{ALL as all_levels}
use Rattle.aide_attr.specs.Level.{level_name, level_named, rank}
use Rattle.aide_attr.specs.Summary.{summary_slots}
use Rattle.aide_attr.specs.Set.{has}
use Rattle.aide_attr.specs.Expression.{Lookup, IsMeaning, IsFault}
use Rattle.aide_attr.proofs.SetLemmas.{same_set}
use Rattle.aide_attr.proofs.WalkLemmas.{meant}
use Rattle.aide_attr.proofs.WalkFaults.{from_expression}
use Rattle.aide_attr.proofs.WalkOnly as only

-- sets with the same attributes are equal
pub equal_sets : (x y : AttrSet) → ((a : Attr) → has x a ≡ has y a) → x ≡ y
equal_sets = same_set

-- a text has one fault at most
pub one_fault : (look : Lookup) (text : List ℕ) (e f : ExprFault) → IsFault look text e → IsFault look text f → e ≡ f
one_fault = only.one_fault

-- a text that means something has no fault
pub no_fault_of_a_meaning : (look : Lookup) (text : List ℕ) (set : AttrSet) (e : ExprFault) → IsMeaning look text set
    → IsFault look text e → ⊥
no_fault_of_a_meaning look text set e m f =
    only.sound look text (meant look (λ _. false) m.0)
    (only.read look (λ _. false) BeforeName true 0 text m.0 (from_expression text m.0 m.1) m.2) e f

-- the name of each level names it; the second line covers every further level
pub level_of_its_name : (l : Level) → level_named (level_name l) ≡ Some l
unfolding level_named
level_of_its_name level.Minimal = refl
level_of_its_name _ = refl

-- the list of all levels has each one, at its index in the order; the second line covers every further level
pub level_at_its_rank : (l other : Level) → get_or all_levels (rank l) other ≡ l
level_at_its_rank level.Minimal other = refl
level_at_its_rank _ other = refl

-- and no other one
pub levels_in_order : map rank all_levels ≡ range_with_len 0 (length all_levels)
levels_in_order = refl

-- the name of each attribute names it
pub attr_of_its_name : (a : Attr) → attr_named (name_of a) ≡ Some a
unfolding attr_named row_of row
attr_of_its_name attr.Ftype = refl
attr_of_its_name _ = refl

same_attr : (a b : Attr) → Some a ≡ Some b → a ≡ b
same_attr a b is = ap (λ (o : Option Attr). unwrap_or o a) is

-- so no two attributes share a name
pub one_of_a_name : (a b : Attr) → name_of a ≡ name_of b → a ≡ b
one_of_a_name a b same = same_attr a b (sym (attr_of_its_name a) ∙ ap attr_named same ∙ attr_of_its_name b)

-- the column of each attribute is that of its holder
pub attr_of_its_column : (a : Attr) → attr_of_column (column_of a) ≡ Some (holder_of a)
unfolding attr_of_column row_of row
attr_of_its_column attr.Ftype = refl
attr_of_its_column _ = refl

-- so no two attributes share a column, but those of one holder
pub one_holder_of_a_column : (a b : Attr) → column_of a ≡ column_of b → holder_of a ≡ holder_of b
one_holder_of_a_column a b same =
    same_attr (holder_of a) (holder_of b) (sym (attr_of_its_column a) ∙ ap attr_of_column same ∙ attr_of_its_column b)

-- the type for the permissions, otherwise itself
abbrev if_perm : Attr → Attr
if_perm attr.Perm = attr.Ftype
if_perm a = a

-- the permissions are in the column of the type, and every other attribute is in one of its own
pub holder_is : (a : Attr) → holder_of a ≡ (if_perm a)
unfolding row_of row
holder_is attr.Ftype = refl
holder_is _ = refl

-- the attribute of a name in details
abbrev attr_detailed : List ℕ → Option Attr
attr_detailed n = find (λ a. pointwise nat_eq (detail_name_of a) n) all_attrs

attr_of_its_detail : (a : Attr) → attr_detailed (detail_name_of a) ≡ Some a
unfolding row_of row
attr_of_its_detail attr.Ftype = refl
attr_of_its_detail _ = refl

-- no two attributes share a name in details
pub one_of_a_detail_name : (a b : Attr) → detail_name_of a ≡ detail_name_of b → a ≡ b
one_of_a_detail_name a b same =
    same_attr a b (sym (attr_of_its_detail a) ∙ ap attr_detailed same ∙ attr_of_its_detail b)

-- the slot of each attribute is one of a summary string
pub slot_in_summary : (a : Attr) → list_any (λ slot. slot == slot_of a) summary_slots ≡ true
unfolding row_of row
slot_in_summary attr.Ftype = refl
slot_in_summary _ = refl
