use Rattle.std.proofs.Common.{◌∙◌}
use Rattle.aide_attr.proofs.NameLemmas.{listed_in}
use Rattle.aide_conf.specs.Effect.{accepted_names, is_accepted}
use Rattle.aide_conf.proofs.option_kind.is_accepted.Goals as goal

pub returns : goal.returns
unfolding is_accepted
returns c = c.contains.ensures.value ∙ listed_in c.args.name.now accepted_names
