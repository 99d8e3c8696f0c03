use Rattle.std.proofs.Common.{rules}
use Rattle.aide_text.proofs.DigestTexts.{written}
use Rattle.aide_report.proofs.details.digest_value.Goals as goal

pub returns-in-Some : goal.returns-in-Some
returns-in-Some c = search (rules, written)
