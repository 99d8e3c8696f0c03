use Rattle.std.proofs.Common.{rules}
use Rattle.aide_text.proofs.PlainLemmas.{plain_then}
use Rattle.aide_text.proofs.plain.plain_len.Goals as goal

pub returns-clause-plain : goal.returns-clause-plain
returns-clause-plain c = search (rules, plain_then)
