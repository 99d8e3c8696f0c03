use Rattle.std.proofs.Common.{◌∙◌}
use Rattle.aide_attr.proofs.NameLemmas.{listed_in}
use Rattle.aide_conf.specs.Effect.{is_omitted, omitted_words}
use Rattle.aide_conf.proofs.directive.is_omitted.Goals as goal

pub returns : goal.returns
unfolding is_omitted
returns c = c.contains.ensures.value ∙ listed_in c.args.word.now omitted_words
