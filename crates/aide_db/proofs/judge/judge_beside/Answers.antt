use Rattle.std.proofs.Common.{refl}
use Rattle.std.proofs.lemmas.Bool.{false≢true}
use Rattle.aide_db.proofs.judge.judge_beside.Goals as goal

pub returns-then-same-clause-alike : goal.returns-then-same-clause-alike
returns-then-same-clause-alike c = λ _. refl

pub returns-clause-only : goal.returns-clause-only
returns-clause-only c = λ e. absurd (false≢true e)
