use Rattle.std.proofs.Common.{rules}
use Rattle.aide_text.proofs.Sheets.{wrote_as}
use Rattle.aide_json.proofs.MemberLemmas.{as_digits, as_quoted}
use Rattle.aide_json.proofs.number.put_digits.Goals as goal

pub returns-then-is_exact : goal.returns-then-is_exact
returns-then-is_exact g c = search (rules, wrote_as, as_digits)

pub returns-else-is_exact : goal.returns-else-is_exact
returns-else-is_exact g c = search (rules, wrote_as, as_quoted)
