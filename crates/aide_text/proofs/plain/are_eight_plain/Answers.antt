use Rattle.std.proofs.Common.{rules}
use Rattle.aide_text.proofs.PlainLemmas.{eight_plain}
use Rattle.aide_text.proofs.plain.are_eight_plain.Goals as goal

pub returns : goal.returns
returns c = search (rules, eight_plain)
