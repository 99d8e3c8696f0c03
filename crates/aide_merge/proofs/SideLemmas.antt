-- What holds of each side, from what holds of the old and of the new one.
use Rattle.std.specs.Prelude.{◌≡◌, ℕ, List}
use Rattle.aide_db.specs.declared.limits.Limits.{Limits}
use Rattle.aide_db.specs.declared.side.Side.{Side}
use Rattle.aide_db.specs.declared.side.Side.TheVariants.{Old, New}
use Rattle.aide_merge.specs.code.Merging.{limits_at}
use Rattle.aide_merge.specs.declared.merge.Merge.{Merge}

pub of_sides : (P Q : Side → List ℕ → Type 0) → ((text : List ℕ) → P Old text → Q Old text)
    → ((text : List ℕ) → P New text → Q New text)
    → (side : Side) (text : List ℕ) → P side text → Q side text
of_sides P Q f g Old text p = f text p
of_sides P Q f g New text p = g text p

pub limits_each : {R : Type 0} (m : Merge R) (limits : Limits) → limits_at m Old ≡ limits → limits_at m New ≡ limits
    → (side : Side) → limits_at m side ≡ limits
limits_each m limits old new Old = old
limits_each m limits old new New = new
