use Rattle.std.proofs.Common.{subst}
use Rattle.aide_patterns.specs.List.{IsReading}
use Rattle.aide_patterns.proofs.ReadLemmas.{list_is_read}
use Rattle.aide_patterns.proofs.exclusions.Exclusions.read.Goals as goal

pub returns-in-Ok-clause-ok : goal.returns-in-Ok-clause-ok
returns-in-Ok-clause-ok c = subst (IsReading c.args.text.now) c.in-Ok.ensures.ok (list_is_read c.args.text.now)

pub returns-in-Err-clause-err : goal.returns-in-Err-clause-err
returns-in-Err-clause-err c other =
    subst (IsReading c.args.text.now) (c.in-Err.ensures.err other) (list_is_read c.args.text.now)
