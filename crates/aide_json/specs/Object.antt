-- Objects and arrays of JSON (RFC 8259 sections 4 and 5), and a line of JSON lines.
use Rattle.std.specs.Prelude.{ℕ, Bool, if◌then◌else◌, List, [], ◌∷◌, ◌++◌}
use Rattle.std.specs.List.{flat_map}

-- the comma before a text that is not the first
abbrev pub comma : Bool → List ℕ
comma first = if first then [] else 44 ∷ []

-- texts, each after a comma
abbrev pub behind : List (List ℕ) → List ℕ
behind texts = flat_map (λ text. 44 ∷ text) texts

-- texts with commas between them
abbrev pub joined : List (List ℕ) → List ℕ
joined [] = []
joined (text ∷ texts) = text ++ behind texts

-- an object of these members
unfoldable pub object : List (List ℕ) → List ℕ
object members = 123 ∷ (joined members ++ 125 ∷ [])

-- an array of these values
unfoldable pub array : List (List ℕ) → List ℕ
array values = 91 ∷ (joined values ++ 93 ∷ [])

-- an object and the end of its line
unfoldable pub line : List (List ℕ) → List ℕ
line members = object members ++ 10 ∷ []
