-- A line in the order in which it is written.
use Rattle.std.proofs.Common.{◌≡◌, ◌∙◌, ℕ, Bool, true, false, List, [], ◌∷◌, ◌++◌, sym, ap, arith, append_assoc, codes, cond, map}
use Rattle.std.proofs.Common.{is_some, refl}
use Rattle.std.specs.Prelude.{◌&&◌, Option, Some, None}
use Rattle.std.specs.List.{filter, flat_map}
use Rattle.aide_agreement.specs.Account.{Pair}
use Rattle.aide_agreement.specs.Kind.{kind_word, type_at}
use Rattle.aide_attr.specs.Attr.{detail_name_of}
use Rattle.aide_attr.specs.declared.attr.Attr.{Attr}
use Rattle.aide_fields.specs.Attributes.{Attributes, Value}
use Rattle.aide_json.proofs.ItemLemmas.{behind_both}
use Rattle.aide_json.specs.Object.{behind, line, object}
use Rattle.aide_json.specs.Value.{member_if_any, print_member, text_member, texts_of, word}
use Rattle.aide_line_text.specs.Attribute.{attribute_member, value_member}
use Rattle.aide_line_text.specs.Entry.{account_member, entry_line, entry_member, type_member}
use Rattle.aide_line_text.specs.code.Parts.{attribute_text, entry_head, entry_parts}
use Rattle.aide_line_text.specs.declared.account.Account.{Account}
use Rattle.aide_text.specs.ValueText.{option_text}

module _ (values : Attributes) (a : Attr) (rest more : List Attr)
    (h : map (attribute_text values) rest ≡ texts_of (flat_map (attribute_member values) more)) where
  -- an attribute before others: it passes or does not, and the entry has this value or none
  one_more : (shown : Bool) (found : Option Value) → values a ≡ found
      → map (attribute_text values) (cond (shown && is_some found) (a ∷ rest) rest)
      ≡ texts_of (flat_map (attribute_member values) (cond shown (a ∷ more) more))
  one_more true (Some value) e =
      ap (λ found. option_text (λ v. print_member (value_member (detail_name_of a) v)) found ∷ map (attribute_text values) rest) e
      ∙ ap (λ l. print_member (value_member (detail_name_of a) value) ∷ l) h
      ∙ ap (λ found. texts_of (member_if_any (value_member (detail_name_of a)) found ++ flat_map (attribute_member values) more)) (sym e)
  one_more true None e =
      h ∙ ap (λ found. texts_of (member_if_any (value_member (detail_name_of a)) found ++ flat_map (attribute_member values) more)) (sym e)
  one_more false found e = h

-- the texts of the attributes that pass and that the entry has
pub texts_shown : (shows : Attr → Bool) (values : Attributes) (attrs : List Attr)
    → map (attribute_text values) (filter (λ a. shows a && is_some (values a)) attrs)
    ≡ texts_of (flat_map (attribute_member values) (filter shows attrs))
texts_shown shows values [] = refl
texts_shown shows values (a ∷ attrs) =
    one_more values a (filter (λ a. shows a && is_some (values a)) attrs) (filter shows attrs) (texts_shown shows values attrs)
    (shows a) (values a) refl

assemble : (k p s m b c d e f : List ℕ)
    → (123 ∷ (k ++ (44 ∷ (p ++ (44 ∷ s))))) ++ (m ++ (b ++ ((c ++ d) ++ (e ++ f))))
    ≡ (123 ∷ ((k ++ ((44 ∷ p) ++ ((44 ∷ s) ++ (m ++ (b ++ (c ++ d)))))) ++ e)) ++ f
assemble k p s m b c d e f = grind (arith, append_assoc)

pub parts_line : (path letters : List ℕ) (account : Option Account) (shows : Attr → Bool) (found : Pair)
    → entry_parts path letters account shows found ≡ entry_line path letters account shows found
unfolding entry_parts entry_head entry_line line object
parts_line path letters account shows found =
    let k = print_member (codes "kind", word (kind_word found)) in
    let p = print_member (text_member (codes "path") path) in
    let s = print_member (codes "summary", word letters) in
    let m = member_if_any account_member account in
    let t = member_if_any type_member (type_at found) in
    let o = member_if_any (entry_member (codes "old") shows) found.0 in
    let n = member_if_any (entry_member (codes "new") shows) found.1 in
    assemble k p s (behind (texts_of m)) (behind (texts_of t)) (behind (texts_of o)) (behind (texts_of n)) (125 ∷ []) (10 ∷ [])
    ∙ ap (λ l. (123 ∷ ((k ++ ((44 ∷ p) ++ ((44 ∷ s) ++ l))) ++ (125 ∷ []))) ++ 10 ∷ [])
    (sym (behind_both m (t ++ (o ++ n))
    ∙ ap (λ l. behind (texts_of m) ++ l) (behind_both t (o ++ n) ∙ ap (λ l. behind (texts_of t) ++ l) (behind_both o n))))
