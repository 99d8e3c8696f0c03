-- Fields that were judged: which have a value.
use Rattle.std.proofs.Common.{◌≡◌, ℕ, List, [], ◌∷◌, refl, sym, ◌∙◌, true, false, Bool, ◌&&◌, if◌then◌else◌, Option, Some}
use Rattle.std.proofs.Common.{None, inl, inr}
use Rattle.std.specs.Prelude.{is_some, length, ◌==◌}
use Rattle.std.proofs.lemmas.Bool.{and_parts}
use Rattle.aide_attr.specs.Attr.{row, row_of, bit_of, form_of, holder_of}
use Rattle.aide_attr.specs.Set.{is_attr}
use Rattle.aide_attr.specs.declared.attr.Attr.{Attr}
use Rattle.aide_attr.specs.declared.attr.Attr.TheVariants as attrs
use Rattle.aide_attr.proofs.DifferenceLemmas.{attr_is}
use Rattle.aide_attr.proofs.WalkLemmas.{bool_cases}
use Rattle.aide_entry.specs.Entry.{have_forms, has_entry, is_path, path_of, field_of, is_on}
use Rattle.aide_entry.specs.Fields.{field_under, is_of, is_bits}
use Rattle.aide_fields.specs.Text.{fields}
use Rattle.aide_fields.specs.Values.{is_field, time_of}
use Rattle.aide_entry.specs.declared.column.Column.{Column}
use Rattle.aide_entry.specs.declared.column.Column.TheVariants.{Name, Bits, Of, Skipped}

-- the field of an attribute's column has the attribute's form
pub under_formed : (a : Attr) (cs : List Column) (fs : List (List ℕ)) (field : List ℕ) → have_forms cs fs ≡ true
    → field_under (is_of a) cs fs ≡ Some field → is_field (form_of a) field ≡ true
under_formed a [] fs field forms is = cc
under_formed a (c ∷ cs) [] field forms is = cc
under_formed a (Name ∷ cs) (f ∷ fs) field forms is = under_formed a cs fs field forms is
under_formed a (Bits ∷ cs) (f ∷ fs) field forms is = under_formed a cs fs field (and_parts _ _ forms).1 is
under_formed a (Skipped ∷ cs) (f ∷ fs) field forms is = under_formed a cs fs field forms is
under_formed a (Of b ∷ cs) (f ∷ fs) field forms is = elim (bool_cases (is_attr a b)) [
  | inl e ↦
      let same : Some f ≡ Some field = rw e at is in
      let it : f ≡ field = cc in
      rw (attr_is a b e, ← it) (and_parts (is_field (form_of b) f) (have_forms cs fs) forms).0
  | inr e ↦ under_formed a cs fs field (and_parts (is_field (form_of b) f) (have_forms cs fs) forms).1 (rw e at is)
]

-- the two attributes of one column have fields of one form
holder_form : (a : Attr) (field : List ℕ) → is_field (form_of (holder_of a)) field ≡ is_field (form_of a) field
unfolding row_of row
holder_form attrs.Perm field = refl
holder_form _ field = refl

of_on : (b : Bool) (field : List ℕ) (under : Option (List ℕ)) → (if b then under else None) ≡ Some field → under ≡ Some field
of_on true field under e = e
of_on false field under e = cc

-- of a line that was judged, the field of an attribute is one of its form
pub judged_field : (cs : List Column) (line : List ℕ) (a : Attr) (field : List ℕ) → has_entry cs line ≡ true
    → Some field ≡ field_of cs line a → is_field (form_of a) field ≡ true
judged_field cs line a field judged is =
    let forms = and_parts ((length (fields line) == length cs) && is_path (path_of cs line)) (have_forms cs (fields line)) judged in
    sym (holder_form a field) ∙ under_formed (holder_of a) cs (fields line) field forms.1
    (of_on (is_on (bit_of a) (field_under is_bits cs (fields line))) field (field_under (is_of (holder_of a)) cs (fields line)) (sym is))

-- the field of the time of the last change of an inode is a time, or there is none
pub ctime_judged : (cs : List Column) (line field : List ℕ) → has_entry cs line ≡ true
    → Some field ≡ field_under (is_of attrs.Ctime) cs (fields line) → is_some (time_of field) ≡ true
unfolding row_of row
ctime_judged cs line field judged is =
    let forms = and_parts ((length (fields line) == length cs) && is_path (path_of cs line)) (have_forms cs (fields line)) judged in
    under_formed attrs.Ctime cs (fields line) field forms.1 (sym is)
