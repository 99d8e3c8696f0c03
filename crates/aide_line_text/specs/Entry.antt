-- The line of one path at which the databases differ.
use Rattle.std.specs.Prelude.{ℕ, Bool, List, ◌∷◌, ◌++◌, Option, codes}
use Rattle.aide_agreement.specs.Account.{Pair}
use Rattle.aide_agreement.specs.Kind.{kind_word, type_at}
use Rattle.aide_attr.specs.declared.attr.Attr.{Attr}
use Rattle.aide_attr.specs.declared.file_type.FileType.{FileType}
use Rattle.aide_fields.specs.Attributes.{Attributes}
use Rattle.aide_json.specs.Number.{count}
use Rattle.aide_json.specs.Value.{Member, line, member_if_any, members_of, object, text_member}
use Rattle.aide_json.specs.Value.{word}
use Rattle.aide_line_text.specs.Attribute.{attribute_members}
use Rattle.aide_line_text.specs.declared.account.Account.{Account}
use Rattle.aide_line_text.specs.declared.account.Account.TheVariants.{LeftOut, Old, Trusted}
use Rattle.aide_text.specs.ValueText.{type_text}

-- the member of a type
abbrev pub type_member : FileType → Member
type_member kind = (codes "type", word (type_text kind))

-- the member that names what accounts for a change: an entry, or a line of a list
abbrev pub account_member : Account → Member
account_member Old = (codes "same_as", word (codes "old"))
account_member Trusted = (codes "same_as", word (codes "trusted"))
account_member (LeftOut number) = (codes "left_out", count number)

-- the member of one database's entry: its attributes that pass
abbrev pub entry_member : List ℕ → (Attr → Bool) → Attributes → Member
entry_member name shows values = (name, object (members_of (attribute_members shows values)))

-- The members of the line of a path: what became of it, the path, the summary string, what accounts for the
-- change, the type, and the attributes that pass on either side.
abbrev pub path_members : (path letters : List ℕ) → Option Account → (Attr → Bool) → Pair
    → List Member
path_members path letters account shows found =
    (codes "kind", word (kind_word found))
    ∷ text_member (codes "path") path
    ∷ (codes "summary", word letters)
    ∷ (member_if_any account_member account
    ++ (member_if_any type_member (type_at found)
    ++ (member_if_any (entry_member (codes "old") shows) found.0
    ++ member_if_any (entry_member (codes "new") shows) found.1)))

-- the line of a path
unfoldable pub entry_line : (path letters : List ℕ) → Option Account → (Attr → Bool) → Pair → List ℕ
entry_line path letters account shows found = line (path_members path letters account shows found)
