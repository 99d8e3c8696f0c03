use Rattle.std.proofs.Common.{rules}
use Rattle.aide_text.proofs.PlainLemmas.{plain_more}
use Rattle.aide_text.proofs.plain.few_plain.Goals as goal

pub bytes-preserved : goal.bytes-preserved
bytes-preserved c = search (rules, plain_more)
