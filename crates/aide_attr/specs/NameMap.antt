-- Maps from names to values.
use Rattle.std.specs.Prelude.{ℕ, List, ◌≡◌, ◌≤◌, ◌<◌, ◌⊎◌, map, None, IsSome, Vec}
use Rattle.std.specs.Cmp.Lexicographic.{slice_cmp}
use Rattle.std.specs.Ordering.{nat_cmp}
use Rattle.std.specs.FinMap.{FinMap, from_entries, entries, get, len}

-- a map from names to values
abbrev pub Names : Type 0 → Type 0
Names X = FinMap (slice_cmp nat_cmp) X

-- the map with these entries
abbrev pub named : {A X : Type 0} → List (Vec ℕ A × X) → Names X
named entries = from_entries (map (λ e. (e.0.items, e.1)) entries)

-- the most names in a map
abbrev pub most_names : ℕ
most_names = 1024

-- the name is new, and the map already has as many names as it can have
abbrev pub IsFull : {X : Type 0} → Names X → List ℕ → Type 0
IsFull values name = (get values name ≡ None) × (most_names ≤ len values)

-- the name already has a value, or there is space for another name
abbrev pub HasSpace : {X : Type 0} → Names X → List ℕ → Type 0
HasSpace values name = IsSome (get values name) ⊎ (len values < most_names)

-- the same names, each with the result of `f` for its value
abbrev pub seen : {X Y : Type 0} → (X → Y) → Names X → Names Y
seen f values = from_entries (map (λ e. (e.0, f e.1)) (entries values))
