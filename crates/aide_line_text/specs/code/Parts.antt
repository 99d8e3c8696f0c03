-- The lines in the parts in which they are written.
use Rattle.std.specs.Prelude.{ℕ, Bool, List, [], ◌∷◌, ◌++◌, Option, codes}
use Rattle.aide_agreement.specs.Account.{Pair}
use Rattle.aide_agreement.specs.Kind.{kind_word, type_at}
use Rattle.aide_attr.specs.Attr.{detail_name_of}
use Rattle.aide_attr.specs.declared.attr.Attr.{Attr}
use Rattle.aide_fields.specs.Attributes.{Attributes}
use Rattle.aide_json.specs.Object.{behind}
use Rattle.aide_json.specs.Value.{Member, member_if_any, print_member, text_member, texts_of, word}
use Rattle.aide_line_text.specs.Attribute.{value_member}
use Rattle.aide_line_text.specs.Entry.{account_member, entry_member, type_member}
use Rattle.aide_line_text.specs.declared.account.Account.{Account}
use Rattle.aide_text.specs.ValueText.{option_text}

-- the text of an attribute, or the empty text if the entry lacks it
abbrev pub attribute_text : Attributes → Attr → List ℕ
attribute_text values a =
    option_text (λ value. print_member (value_member (detail_name_of a) value)) (values a)

-- the beginning of the line of a path, as far as the summary string
unfoldable pub entry_head : (word path letters : List ℕ) → List ℕ
entry_head kind path letters =
    123 ∷ (print_member (codes "kind", word kind)
    ++ (44 ∷ (print_member (text_member (codes "path") path)
    ++ (44 ∷ print_member (codes "summary", word letters)))))

-- the text of what may be there, after a comma
abbrev pub any_behind : {X : Type 0} → (X → Member) → Option X → List ℕ
any_behind named found = behind (texts_of (member_if_any named found))

-- the entries of both databases, each after a comma
abbrev pub entries_behind : (Attr → Bool) → Pair → List ℕ
entries_behind shows found =
    any_behind (entry_member (codes "old") shows) found.0
    ++ any_behind (entry_member (codes "new") shows) found.1

-- the line of a path: its beginning, what accounts for the change, the type, the entries of both databases, and its end
unfoldable pub entry_parts : (path letters : List ℕ) → Option Account → (Attr → Bool) → Pair
    → List ℕ
entry_parts path letters account shows found =
    entry_head (kind_word found) path letters
    ++ (any_behind account_member account
    ++ (any_behind type_member (type_at found)
    ++ (entries_behind shows found ++ (125 ∷ 10 ∷ []))))
