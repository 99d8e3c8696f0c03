-- The paths of the databases after some places.
use Rattle.std.specs.Prelude.{ℕ, Bool, true, false, List, Option, Some, None, if◌then◌else◌}
use Rattle.aide_conf.specs.declared.option_kind.Side.{Side}
use Rattle.aide_conf.specs.declared.option_kind.Side.TheVariants.{Old, New}
use Rattle.aide_conf.specs.Effect.{Effect, NamesDatabase}
use Rattle.aide_conf.specs.Marks.{Marked, says, last_given}

-- both are the same one of the two databases
abbrev pub is_side : Side → Side → Bool
is_side Old Old = true
is_side Old New = false
is_side New Old = false
is_side New New = true

-- the path that a line gives to a database
abbrev pub path_by : Side → Effect → Option (List ℕ)
path_by d (NamesDatabase c p) = if is_side d c then Some p else None
path_by _ _ = None

-- the path that a place gives to a database, by what it says
abbrev pub path_in : Side → Marked → Option (List ℕ)
path_in d x = path_by d (says x)

-- the path of a database after these places: the last one assigned
abbrev pub path_set : Side → List Marked → Option (List ℕ)
path_set d xs = last_given (path_in d) xs
