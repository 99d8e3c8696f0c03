-- What became of a path, and the type there.
use Rattle.std.specs.Prelude.{ℕ, List, [], Option, Some, None, codes}
use Rattle.aide_agreement.specs.Account.{Pair}
use Rattle.aide_attr.specs.Summary.{first_type}
use Rattle.aide_attr.specs.declared.attr.Attr.TheVariants.{Ftype}
use Rattle.aide_attr.specs.declared.file_type.FileType.{FileType}
use Rattle.aide_fields.specs.Attributes.{Attributes, type_in}

-- the word for what became of the path
abbrev pub kind_word : Pair → List ℕ
kind_word (None, None) = []
kind_word (None, Some new_entry) = codes "added"
kind_word (Some old_entry, None) = codes "removed"
kind_word (Some old_entry, Some new_entry) = codes "changed"

-- the type of an entry, if there is an entry and it has one
abbrev pub type_on : Option Attributes → Option FileType
type_on None = None
type_on (Some values) = type_in (values Ftype)

-- the type at the path: the new entry's if it has one, otherwise the old entry's
abbrev pub type_at : Pair → Option FileType
type_at found = first_type (type_on found.1) (type_on found.0)
