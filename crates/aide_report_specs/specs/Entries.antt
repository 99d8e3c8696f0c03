-- The texts of one change in a report: its line in a list, and its details.
use Rattle.std.specs.Prelude.{ℕ, Bool, if◌then◌else◌, List, [], ◌++◌, Option, Some, None, codes}
use Rattle.std.specs.List.{flat_map, filter}
use Rattle.aide_attr.specs.Attr.{all_attrs, detail_name_of}
use Rattle.aide_agreement.specs.Account.{Pair}
use Rattle.aide_attr.specs.declared.attr.Attr.{Attr}
use Rattle.aide_attr.specs.declared.file_type.FileType.{FileType}
use Rattle.aide_attr.specs.declared.file_type.FileType.TheVariants.{File, Directory, Char, Block}
use Rattle.aide_attr.specs.declared.file_type.FileType.TheVariants.{Link as SymbolicLink, Fifo}
use Rattle.aide_attr.specs.declared.file_type.FileType.TheVariants.{Socket, Other}
use Rattle.aide_conf.specs.declared.options.Options.{Options}
use Rattle.aide_agreement.specs.Kind.{kind_word, type_at}
use Rattle.aide_text.specs.Layout.{empty_line, path_line, side_by_side}
use Rattle.aide_text.specs.ValueText.{side_text}
use Rattle.aide_merge.specs.Said.{PathChange, letters_of, shows_at}

-- ---- lines

-- what precedes the path in a line: the summary string, or the word for what became of the path
abbrev pub label_of : Options → Pair → List ℕ
label_of options pair =
    if options.summarize then letters_of options.ignore pair else kind_word pair

-- the line of a change in a list: its summary string or a word, and its path
abbrev pub list_line : Options → PathChange → List ℕ
list_line options entry = path_line (label_of options entry.1) entry.0

-- ---- details

-- the word for a type
abbrev pub title_word : Option FileType → List ℕ
title_word None = codes "Entry"
title_word (Some File) = codes "File"
title_word (Some Directory) = codes "Directory"
title_word (Some SymbolicLink) = codes "Link"
title_word (Some Char) = codes "Character device"
title_word (Some Block) = codes "Block device"
title_word (Some Fifo) = codes "FIFO"
title_word (Some Socket) = codes "Socket"
title_word (Some (Other bits)) = codes "Entry"

-- the word for an entry: by the new entry's type if it has one, otherwise by the old entry's type
abbrev pub title_of : Pair → List ℕ
title_of pair = title_word (type_at pair)

-- an attribute: the old value and the new one
unfoldable pub attribute_text : Bool → Pair → Attr → List ℕ
attribute_text base16 pair a =
    side_by_side (detail_name_of a) (side_text base16 a pair.0) (side_text base16 a pair.1)

-- the text of an attribute that passes, and nothing for any other
unfoldable pub shown_text : Bool → Pair → (Attr → Bool) → Attr → List ℕ
shown_text base16 pair shows a = if shows a then attribute_text base16 pair a else []

-- the texts of the attributes that pass, in their order
unfoldable pub attributes_text : Bool → Pair → (Attr → Bool) → List Attr → List ℕ
attributes_text base16 pair shows attrs = flat_map (attribute_text base16 pair) (filter shows attrs)

-- an empty line, the title and the path, and the attributes that are shown
unfoldable pub entry_details : Options → PathChange → List ℕ
entry_details options entry =
    empty_line
    ++ (path_line (title_of entry.1) entry.0
    ++ attributes_text options.base16 entry.1 (shows_at options entry.1) all_attrs)
