-- No two attributes of an entry have members of one name, so each that is shown is read back under its own.
use Rattle.std.proofs.Common.{◌≡◌, ◌∙◌, ℕ, Bool, true, false, cond, ◌&&◌, not, List, [], ◌∷◌, ◌++◌, Option, Some, None}
use Rattle.std.proofs.Common.{inl, inr, refl, sym, ap, ap₂, append-nil, ◌<◌, zero, suc, length, get_or, arith}
use Rattle.std.specs.Prelude.{codes}
use Rattle.std.specs.List.{filter, flat_map, list_all}
use Rattle.std.specs.Str.{is_utf8}
use Rattle.std.proofs.lemmas.Bool.{cases_Bool, and_parts}
use Rattle.aide_attr.specs.Attr.{all_attrs, count, detail_name_of, index, row_of, row}
use Rattle.aide_attr.specs.Set.{is_attr}
use Rattle.aide_attr.specs.declared.attr.Attr.{Attr}
use Rattle.aide_attr.specs.declared.attr.Attr.TheVariants as attr
use Rattle.aide_fields.specs.Attributes.{Attributes, Value, number_value, mode_value, type_value, link_value, digest_value, opaque_value}
use Rattle.aide_attr.proofs.AttrLemmas.{at_index, index_small}
use Rattle.aide_json.specs.Value.{Member, member_if_any, text_member}
use Rattle.aide_line_text.specs.Attribute.{attribute_member, attribute_members, value_member}
use Rattle.aide_line_laws.specs.Field.{Field, fields_of, json_of}
use Rattle.aide_line_laws.specs.Reading.{all_under, is_name_of}

-- ---- the names

abbrev same_test : Bool → Bool → Bool
same_test true b = b
same_test false b = not b

tests_agree : (a b : Bool) → same_test a b ≡ true → a ≡ b
tests_agree true true e = refl
tests_agree true false e = cc
tests_agree false true e = cc
tests_agree false false e = refl

all_at : (p : Attr → Bool) (xs : List Attr) (k : ℕ) (d : Attr) → list_all p xs ≡ true → k < length xs
    → p (get_or xs k d) ≡ true
all_at p [] k d h l = absurd (omega arith)
all_at p (x ∷ xs) zero d h l = (and_parts (p x) (list_all p xs) h).0
all_at p (x ∷ xs) (suc k) d h l = all_at p xs k d (and_parts (p x) (list_all p xs) h).1 (omega arith)

-- what passes for each of the table's attributes passes for any
every_attr : (p : Attr → Bool) → list_all p all_attrs ≡ true → (a : Attr) → p a ≡ true
unfolding count
every_attr p h a = ap p (sym (at_index a a)) ∙ all_at p all_attrs (index a) a h (index_small a)

abbrev own_name : Attr → Attr → Bool
own_name a b =
    same_test (is_name_of (detail_name_of a) (detail_name_of b)) (is_attr a b)
    && same_test (is_name_of (detail_name_of a) (detail_name_of b ++ codes "_hex")) (is_attr a b)

all_own : (a b : Attr) → own_name a b ≡ true
unfolding row_of row
all_own a b = every_attr (λ y. own_name a y) (every_attr (λ x. list_all (λ y. own_name x y) all_attrs) refl a) b

-- ---- the members of one attribute

abbrev no_fields : List Field
no_fields = []

nothing : (v : Bool) → no_fields ≡ cond v no_fields no_fields
nothing true = refl
nothing false = refl

module _ (name : List ℕ) (v : Bool) (own : List ℕ) (e : is_name_of name own ≡ v)
    (f : is_name_of name (own ++ codes "_hex") ≡ v) where
  text_name : (t : List ℕ) → is_name_of name (text_member own t).0 ≡ v
  text_name t = elim (cases_Bool (is_utf8 t)) [
    | inl u ↦ rw u e
    | inr u ↦ rw u f
  ]

  value_name : (value : Value) → is_name_of name (value_member own value).0 ≡ v
  value_name (number_value number) = e
  value_name (mode_value mode) = e
  value_name (type_value kind) = e
  value_name (link_value None) = e
  value_name (link_value (Some target)) = text_name target
  value_name (digest_value bytes) = e
  value_name (opaque_value bytes) = text_name bytes

  any_under : (found : Option Value)
      → all_under name (fields_of (member_if_any (value_member own) found))
      ≡ cond v (fields_of (member_if_any (value_member own) found)) []
  any_under None = nothing v
  any_under (Some value) = ap (λ b. cond b (fields_of (value_member own value ∷ [])) []) (value_name value)

-- ---- the members of all

filter_both : {X : Type 0} (p : X → Bool) (xs ys : List X) → filter p (xs ++ ys) ≡ filter p xs ++ filter p ys
filter_both p [] ys = refl
filter_both p (x ∷ xs) ys =
    let more = filter_both p xs ys in
    elim (p x) as (λ b. cond b (x ∷ filter p (xs ++ ys)) (filter p (xs ++ ys)) ≡ cond b (x ∷ filter p xs) (filter p xs) ++ filter p ys) [
      | true ↦ ap (λ l. x ∷ l) more
      | false ↦ more
    ]

-- what is read of an attribute of an entry, and what of it if it is shown
abbrev attribute_fields : Attributes → Attr → List Field
attribute_fields values b = fields_of (attribute_member values b)

abbrev shown_fields : (shows : Attr → Bool) → Attributes → Attr → List Field
shown_fields shows values b = cond (shows b) (attribute_fields values b) []

fields_both : (all others : List Member) → fields_of (all ++ others) ≡ fields_of all ++ fields_of others
fields_both [] others = refl
fields_both (named ∷ all) others = ap (λ l. (named.0, json_of named.1) ∷ l) (fields_both all others)

module _ (shows : Attr → Bool) (values : Attributes) (a : Attr) where
  one_under : (b : Attr) → all_under (detail_name_of a) (attribute_fields values b) ≡ cond (is_attr a b) (attribute_fields values b) []
  one_under b =
      let own = and_parts _ _ (all_own a b) in
      any_under (detail_name_of a) (is_attr a b) (detail_name_of b) (tests_agree _ _ own.0) (tests_agree _ _ own.1) (values b)

  each_under : (attrs : List Attr)
      → all_under (detail_name_of a) (fields_of (flat_map (attribute_member values) (filter shows attrs)))
      ≡ flat_map (λ b. cond (is_attr a b) (shown_fields shows values b) []) attrs
  each_under [] = refl
  each_under (b ∷ attrs) =
      let more = each_under attrs in
      let rest = flat_map (attribute_member values) (filter shows attrs) in
      let wanted = flat_map (λ b. cond (is_attr a b) (shown_fields shows values b) []) attrs in
      elim (shows b) as (λ s.
      all_under (detail_name_of a) (fields_of (flat_map (attribute_member values) (cond s (b ∷ filter shows attrs) (filter shows attrs))))
      ≡ cond (is_attr a b) (cond s (attribute_fields values b) []) [] ++ wanted) [
        | true ↦ ap (all_under (detail_name_of a)) (fields_both (attribute_member values b) rest)
            ∙ filter_both _ (attribute_fields values b) (fields_of rest) ∙ ap₂ (λ x y. x ++ y) (one_under b) more
        | false ↦ more ∙ ap (λ l. l ++ wanted) (nothing (is_attr a b))
      ]

only_one : (a : Attr) (of : Attr → List Field) → flat_map (λ b. cond (is_attr a b) (of b) []) all_attrs ≡ of a
unfolding row_of row
only_one attr.Ftype of = append-nil (of attr.Ftype)
only_one a of = append-nil (of a)

-- Under the name of an attribute is what the entry has of it, if it is shown, and nothing else.
pub attribute_is_read_back : (shows : Attr → Bool) (values : Attributes) (a : Attr)
    → all_under (detail_name_of a) (fields_of (attribute_members shows values)) ≡ cond (shows a) (attribute_fields values a) []
attribute_is_read_back shows values a = each_under shows values a all_attrs ∙ only_one a (shown_fields shows values)
