use Rattle.std.proofs.Common.{◌∙◌}
use Rattle.aide_attr.specs.Name.{empty_names, is_empty_name}
use Rattle.aide_attr.proofs.NameLemmas.{listed_in}
use Rattle.aide_attr.proofs.name.is_empty_name.Goals as goal

pub returns : goal.returns
unfolding is_empty_name
returns c = c.contains.ensures.value ∙ listed_in c.args.name.now empty_names
