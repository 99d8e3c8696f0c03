-- What a side of a merge has still to pass on.
use Rattle.std.specs.Prelude.{ℕ, ◌+◌, Option, Some, None, List, [], ◌∷◌, ◌++◌}
use Rattle.aide_fields.specs.Attributes.{Entry}
use Rattle.aide_merge.specs.declared.merge.NextEntry.{NextEntry}
use Rattle.aide_merge.specs.declared.merge.NextEntry.TheVariants.{Due, Here, Ended}

-- the entry as a list, which is empty if there is no entry
abbrev pub given : Option Entry → List Entry
given None = []
given (Some entry) = entry ∷ []

-- the entries of a side that are still to be passed on: the one on the desk, if it is still here, and the rest
abbrev pub ahead : NextEntry → Option Entry → List Entry → List Entry
ahead Due shown rest = rest
ahead Here shown rest = given shown ++ rest
ahead Ended shown rest = []

-- the entry of a side that is on the desk and is still to be passed on
abbrev pub next_entry : NextEntry → Option Entry → Option Entry
next_entry Due shown = None
next_entry Here shown = shown
next_entry Ended shown = None

-- a bound on the entries that a side can still pass on, from the bytes that its cursor may still use
abbrev pub work : NextEntry → ℕ → ℕ
work Due left = left
work Here left = left + 1
work Ended left = left
