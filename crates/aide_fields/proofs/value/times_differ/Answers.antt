use Rattle.std.proofs.Common.{rules}
use Rattle.aide_fields.proofs.TenDigits.{ten_differ}
use Rattle.aide_fields.proofs.TimeMarks.{told_ten}
use Rattle.aide_fields.proofs.value.times_differ.Goals as goal

pub returns-then-tells_ten-2 : goal.returns-then-tells_ten-2
returns-then-tells_ten-2 c = search (rules, ten_differ, told_ten)
