use Rattle.std.proofs.Common.{◌∙◌, ap}
use Rattle.aide_left_out.specs.Settings.{is_setting}
use Rattle.aide_left_out.proofs.name.is_setting.Goals as goal

pub returns : goal.returns
returns c = c.is_at.ensures ∙ ap is_setting c.name.ensures.path
