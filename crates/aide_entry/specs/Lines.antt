-- The kinds of lines of a database.
use Rattle.std.specs.Prelude.{ℕ, Bool, true, false, not, if◌then◌else◌, List, [], ◌∷◌, codes}
use Rattle.std.specs.Prelude.{nat_eq}
use Rattle.std.specs.List.{starts_with}
use Rattle.std.specs.Str.{bytes_eq}
use Rattle.aide_fields.specs.Text.{fields}
use Rattle.aide_entry.specs.declared.line.LineKind.{LineKind}
use Rattle.aide_entry.specs.declared.line.LineKind.TheVariants.{Blank, Begin, Spec, End, Directive}
use Rattle.aide_entry.specs.declared.line.LineKind.TheVariants.{Other}

-- the kind of a line that begins with this field
unfoldable pub kind_of_field : List ℕ → LineKind
kind_of_field field =
    if starts_with nat_eq field (codes "#") then Blank else (
    if bytes_eq field (codes "@@begin_db") then Begin else (
    if bytes_eq field (codes "@@db_spec") then Spec else (
    if bytes_eq field (codes "@@end_db") then End else (
    if starts_with nat_eq field (codes "@@") then Directive else Other))))

-- the kind of a line with these fields
abbrev pub kind_of_fields : List (List ℕ) → LineKind
kind_of_fields [] = Blank
kind_of_fields (field ∷ more) = kind_of_field field

-- the kind of a line, by its first field
unfoldable pub kind_of : List ℕ → LineKind
kind_of line = kind_of_fields (fields line)

-- lines of this kind are skipped
abbrev pub is_blank_kind : LineKind → Bool
is_blank_kind Blank = true
is_blank_kind _ = false

-- the line is not skipped
abbrev pub counts : List ℕ → Bool
counts line = not (is_blank_kind (kind_of line))

-- the kind is that of an end line
abbrev pub is_end_kind : LineKind → Bool
is_end_kind End = true
is_end_kind _ = false

-- the line is an end line
abbrev pub is_end : List ℕ → Bool
is_end line = is_end_kind (kind_of line)
