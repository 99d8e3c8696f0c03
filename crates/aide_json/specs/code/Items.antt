-- Texts with commas between them, one after another.
use Rattle.std.specs.Prelude.{ℕ, Bool, true, false, if◌then◌else◌, List, [], ◌++◌, map}
use Rattle.std.specs.List.{filter}
use Rattle.aide_json.specs.Object.{behind, comma, joined}

-- the texts that come next: at the beginning, or after others
abbrev pub joined_on : Bool → List (List ℕ) → List ℕ
joined_on true texts = joined texts
joined_on false texts = behind texts

-- the texts of the wanted ones among these
unfoldable pub items_from : {X : Type 0} → Bool → (X → Bool) → (X → List ℕ) → List X → List ℕ
items_from first wants text xs = joined_on first (map text (filter wants xs))

-- one text, if it is wanted
unfoldable pub next_item : Bool → Bool → List ℕ → List ℕ
next_item wanted first text = if wanted then comma first ++ text else []
