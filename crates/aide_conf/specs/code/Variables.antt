-- Variables as a finite map from names to values.
use Rattle.std.specs.Prelude.{ℕ, List, [], unwrap_or, Vec}
use Rattle.std.specs.FinMap.{get}
use Rattle.aide_attr.specs.NameMap.{Names, seen}

-- a map from names to values
abbrev pub Values : Type 0
Values = Names (List ℕ)

-- the variables of a map, each with the bytes of its value
abbrev pub values_of : {A : Type 0} → Names (Vec ℕ A) → Values
values_of table = seen (λ v. v.items) table

-- the value of a name, which is empty if the name is not defined
abbrev pub value_by : Values → List ℕ → List ℕ
value_by values name = unwrap_or (get values name) []
