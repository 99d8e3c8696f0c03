-- How the code represents a change.
use Rattle.std.specs.Prelude.{◌≡◌, ℕ, Some, List, [], ◌∷◌}
use Rattle.aide_agreement.specs.ChangeView.{found_in}
use Rattle.aide_agreement.specs.declared.change.Change.{Change}
use Rattle.aide_agreement.specs.declared.change.Change.TheVariants.{Added, Removed, Common}
use Rattle.aide_fields.specs.Attributes.{Attributes, Entry}
use Rattle.aide_entry.specs.View.{entry_in}
use Rattle.aide_merge.specs.Compare.{Change as Sided}
use Rattle.aide_merge.specs.declared.change.AtPath.{AtPath}
use Rattle.aide_merge.specs.declared.change.AtPath.TheVariants.{Alike, Differs, End}

-- the path
abbrev pub path_in : Change → List ℕ
path_in (Added new) = (entry_in new).0
path_in (Removed old) = (entry_in old).0
path_in (Common old new) = (entry_in old).0

-- the path, and the entry of each side there
abbrev pub change_of : Change → Sided (List ℕ) Attributes
change_of change = (path_in change, found_in change)

-- one entry on both sides
abbrev pub alike_of : Entry → Sided (List ℕ) Attributes
alike_of entry = (entry.0, (Some entry.1, Some entry.1))

-- Both sides have the same entry at the path, and the list has no other change.
pub record IsAlike (changes : List (Sided (List ℕ) Attributes)) : Type 0 where
  pub entry : Entry
  pub only : changes ≡ alike_of entry ∷ []

-- the code shows at a path the entries of both sides there
abbrev pub ShowsPath : AtPath → List (Sided (List ℕ) Attributes) → Type 0
ShowsPath Alike changes = IsAlike changes
ShowsPath (Differs change) changes = changes ≡ change_of change ∷ []
ShowsPath End changes = changes ≡ []
