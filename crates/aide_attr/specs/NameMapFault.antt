-- Why a map refuses a name.
use Rattle.std.specs.Prelude.{ℕ, List}
use Rattle.aide_attr.specs.declared.name_map.NameMapFault.{NameMapFault}
use Rattle.aide_attr.specs.declared.name_map.NameMapFault.TheVariants.{Full, Memory}
use Rattle.aide_attr.specs.NameMap.{Names, IsFull, HasSpace}

-- A full map takes no new name. An allocation fails only if there is space for the name.
abbrev pub IsNameMapFault : {X : Type 0} → Names X → List ℕ → NameMapFault → Type 0
IsNameMapFault values name Full = IsFull values name
IsNameMapFault values name Memory = HasSpace values name
