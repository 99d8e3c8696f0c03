-- The text of a database without entries has none at any path.
use Rattle.std.proofs.Common.{◌≡◌, ◌∙◌, ℕ, List, [], None, refl, ap}
use Rattle.std.specs.FinMap.{from_sorted, get, get-from_sorted}
use Rattle.aide_db.specs.Map.{database_of, entries_of}
use Rattle.aide_fields.specs.Attributes.{Attributes}
use Rattle.aide_entry.specs.Lines.{kind_of, kind_of_field}
use Rattle.aide_fields.specs.Path.{path_cmp}
use Rattle.aide_fields.specs.Text.{fields, lines}
use Rattle.aide_db.specs.EmptyDatabase.{empty_database}

no_line : entries_of empty_database ≡ []
unfolding empty_database lines kind_of kind_of_field fields
no_line = refl

-- The map of this text has nothing, at any path.
pub no_entries_are_none : (path : List ℕ) → get (database_of empty_database) path ≡ None
no_entries_are_none path =
    ap (λ all. get (from_sorted {R = path_cmp} all) path) no_line ∙ get-from_sorted {X = Attributes} path_cmp [] path tt
