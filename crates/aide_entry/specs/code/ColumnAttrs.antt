-- The attributes that have a column.
use Rattle.std.specs.Prelude.{◌≡◌, true, List}
use Rattle.std.specs.List.{list_any}
use Rattle.aide_attr.specs.Attr.{holder_of}
use Rattle.aide_attr.specs.Set.{is_attr}
use Rattle.aide_attr.specs.declared.attr.Attr.{Attr}
use Rattle.aide_entry.specs.Fields.{is_of}
use Rattle.aide_entry.specs.declared.column.Column.{Column}

-- each attribute that has a column is in the list
abbrev pub AreListed : List Attr → List Column → Type 0
AreListed attrs columns = (attr : Attr) → list_any (is_of (holder_of attr)) columns ≡ true
    → list_any (is_attr attr) attrs ≡ true
