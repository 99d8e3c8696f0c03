-- Whether a database may have the columns of a spec line.
use Rattle.std.proofs.Common.{◌≡◌, ◌<◌, ◌≤◌, List, ◌∷◌, ◌++◌, length, map, refl, true, false, arith, ℕ, rules}
use Rattle.std.proofs.lemmas.Bool.{le-leb}
use Rattle.std.proofs.lemmas.Bool.Decides.{nat_tests}
use Rattle.std.proofs.lemmas.List.{length-append}
use Rattle.std.specs.List.{list_any}
use Rattle.aide_entry.specs.Fields.{are_columns, are_distinct, column_named, is_name}
use Rattle.aide_fields.specs.Text.{fields}
use Rattle.aide_entry.specs.declared.column.Column.{Column}

-- columns with a name, and not too many
pub if_distinct : (columns : List Column) → length columns ≤ 64 → list_any is_name columns ≡ true
    → are_distinct columns ≡ are_columns columns
if_distinct columns few named = rw (le-leb (length columns) 64 few, named) refl

too_many : (columns : List Column) → 64 < length columns → are_columns columns ≡ false
too_many columns many = grind (arith, nat_tests)

-- a further column after as many as there may be
pub full_columns : (held : List Column) (rest more field : List ℕ) (columns : List Column)
    → held ++ map column_named (fields rest) ≡ columns → length held ≡ 64 → fields rest ≡ field ∷ fields more
    → are_columns columns ≡ false
full_columns held rest more field columns joined full cut = search (rules, too_many, length-append)
