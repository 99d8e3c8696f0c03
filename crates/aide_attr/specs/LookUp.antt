-- Tables of names, as lists of a name and its value.
use Rattle.std.specs.Prelude.{ℕ, nat_eq, List, [], ◌∷◌, Option, Some, None, if◌then◌else◌}
use Rattle.std.specs.Cmp.Lexicographic.{pointwise}

-- the value of the first row with this name, if a row has it
abbrev pub look_up : {V : Type 0} → List (List ℕ × V) → List ℕ → Option V
look_up [] n = None
look_up (row ∷ rows) n = if pointwise nat_eq n row.0 then Some row.1 else look_up rows n
