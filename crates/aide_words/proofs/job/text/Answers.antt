use Rattle.std.proofs.Common.{rules}
use Rattle.clap.proofs.WalkLemmas.{first_value-rows}
use Rattle.aide_words.proofs.job.text.Goals as goal

pub returns : goal.returns
returns c = rw (← first_value-rows _ c.args.id.now, ← c.get_str.ensures) (search rules)
