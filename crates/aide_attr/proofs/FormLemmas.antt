-- The forms that one attribute alone has.
use Rattle.std.proofs.Common.{◌≡◌, ◌∙◌, ◌<◌, ℕ, suc, zero, Bool, true, false, List, [], ◌∷◌, length, get_or, sym}
use Rattle.std.proofs.Common.{ap, arith, rules}
use Rattle.std.specs.Prelude.{◌||◌, not}
use Rattle.std.specs.List.{list_all}
use Rattle.std.proofs.lemmas.Bool.{and_parts}
use Rattle.aide_attr.specs.Attr.{form_of, row_of, row, index, all_attrs, count}
use Rattle.aide_attr.specs.declared.attr.Attr.{Attr}
use Rattle.aide_attr.specs.declared.attr.Attr.TheVariants.{Ftype, Lname}
use Rattle.aide_attr.specs.declared.form.Form.{Form}
use Rattle.aide_attr.specs.declared.form.Form.TheVariants.{Kind, Link}
use Rattle.aide_attr.proofs.AttrLemmas.{at_index, index_small}
use Rattle.aide_attr.proofs.DifferenceLemmas.{attr_is}

all_at : (p : Attr → Bool) (xs : List Attr) (k : ℕ) (d : Attr) → list_all p xs ≡ true → k < length xs
    → p (get_or xs k d) ≡ true
all_at p [] k d h l = absurd (omega arith)
all_at p (x ∷ xs) zero d h l = (and_parts (p x) (list_all p xs) h).0
all_at p (x ∷ xs) (suc k) d h l = all_at p xs k d (and_parts (p x) (list_all p xs) h).1 (omega arith)

-- what passes for each of the table's attributes passes for any
every_attr : (p : Attr → Bool) → list_all p all_attrs ≡ true → (a : Attr) → p a ≡ true
unfolding count
every_attr p h a = ap p (sym (at_index a a)) ∙ all_at p all_attrs (index a) a h (index_small a)

is_kind : Form → Bool
is_kind Kind = true
is_kind _ = false

is_link : Form → Bool
is_link Link = true
is_link _ = false

then_passes : (a b : Bool) → (not a || b) ≡ true → a ≡ true → b ≡ true
then_passes true b h e = h
then_passes false b h e = cc

pub kind_alone : (a : Attr) → form_of a ≡ Kind → a ≡ Ftype
unfolding row_of row is_kind
kind_alone a e = search (rules, attr_is, then_passes, is_kind, every_attr)

pub link_alone : (a : Attr) → form_of a ≡ Link → a ≡ Lname
unfolding row_of row is_link
link_alone a e = search (rules, attr_is, then_passes, is_link, every_attr)
