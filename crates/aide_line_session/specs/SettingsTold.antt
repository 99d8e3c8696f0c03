-- What a session of lines says of an accepted configuration that is only checked.
use Rattle.std.specs.Prelude.{ℕ, List}
use Rattle.aide_conf.specs.Settings.{Configured}
use Rattle.aide_line_text.specs.Settings.{settings_line}

-- the line that says what a configuration sets
abbrev pub settings_told : Configured → List ℕ
settings_told s = settings_line s.options s.old_path s.new_path
