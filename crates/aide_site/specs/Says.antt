-- What a session says of an accepted configuration that is only checked.
use Rattle.std.specs.Prelude.{ℕ, List, Option, Some, None}
use Rattle.aide_conf.specs.Settings.{Configured}
use Rattle.aide_site.specs.Lines.{lines_usage_line, usage_line}

-- the text that is written of such a configuration, if anything is
abbrev pub Says : Type 0
Says = Option (Configured → List ℕ)

-- how to call the program: one that says something of such a configuration writes lines of JSON
abbrev pub usage_by : Says → List ℕ
usage_by None = usage_line
usage_by (Some says) = lines_usage_line
