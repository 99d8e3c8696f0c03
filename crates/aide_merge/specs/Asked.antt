-- What a comparison is asked for, as plain data.
use Rattle.std.specs.Prelude.{ℕ, List}
use Rattle.aide_conf.specs.declared.options.Options.{Options}
use Rattle.aide_conf.specs.declared.task.Task.{Task}

-- the options of the report, and the configured paths
pub record Asked : Type 0 where
  pub options : Options
  pub old_path : List ℕ
  pub new_path : List ℕ

-- what a task asks for: its options and both paths
abbrev pub asked : Task → Asked
asked task = record {
  options = task.options;
  old_path = task.old_path.now;
  new_path = task.new_path.now;
}
