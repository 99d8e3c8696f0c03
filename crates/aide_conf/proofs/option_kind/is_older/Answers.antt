use Rattle.std.proofs.Common.{◌∙◌}
use Rattle.aide_attr.proofs.NameLemmas.{listed_in}
use Rattle.aide_conf.specs.Effect.{is_older, older_names}
use Rattle.aide_conf.proofs.option_kind.is_older.Goals as goal

pub returns : goal.returns
unfolding is_older
returns c = c.contains.ensures.value ∙ listed_in c.args.name.now older_names
