-- How often a side of planned sources was opened.
use Rattle.std.specs.Prelude.{ℕ}
use Rattle.aide_db.specs.Side.{by_side}
use Rattle.aide_db.specs.declared.side.Side.{Side}
use Rattle.aide_planned.specs.declared.sources.PlannedSources.{PlannedSources}

abbrev pub openings_of : PlannedSources → Side → ℕ
openings_of sources side = by_side sources.old_openings sources.new_openings side
