-- The attributes that have a column, in a list.
use Rattle.std.proofs.Common.{◌≡◌, ℕ, List, [], ◌∷◌, refl, Bool, false, None, rules}
use Rattle.std.specs.List.{list_any}
use Rattle.aide_attr.specs.Set.{is_attr}
use Rattle.aide_attr.specs.declared.attr.Attr.{Attr}
use Rattle.aide_entry.specs.code.ColumnAttrs.{AreListed}
use Rattle.aide_entry.specs.Entry.{attributes_of}
use Rattle.aide_entry.specs.Fields.{field_under}
use Rattle.aide_entry.specs.declared.column.Column.{Column}
use Rattle.aide_entry.proofs.FieldValues.{lacking}

no_column : (test : Column → Bool) (cs : List Column) (fs : List (List ℕ)) → list_any test cs ≡ false → field_under test cs fs ≡ None
no_column test [] fs none = refl
no_column test (c ∷ cs) [] none = refl
no_column test (c ∷ cs) (f ∷ fs) none = search (rules, no_column test cs fs)

-- an entry has no attribute that is not in the list
pub unlisted : (attrs : List Attr) (cs : List Column) (line : List ℕ) → AreListed attrs cs → (a : Attr)
    → list_any (is_attr a) attrs ≡ false → attributes_of cs line a ≡ None
unlisted attrs cs line are a none = search (rules, lacking, no_column)
