-- The laws about what a run answers.
use Rattle.std.specs.Prelude.{◌≡◌, ◌≤◌, ℕ, List, Result}
use Rattle.std.specs.declared.option.Option.{Option}
use Rattle.aide_db.specs.declared.limits.Limits.{Limits}
use Rattle.aide_merge.specs.Asked.{Asked}
use Rattle.aide_report_specs.specs.Missing.{RunsOver, HasAnswerOver}
use Rattle.aide_merge.specs.RightAnswer.{Report}
use Rattle.aide_merge.specs.declared.run_fault.RunFault.{RunFault}
use Rattle.aide_report_specs.specs.Runs.{report_over}
use Rattle.aide_merge.proofs.RightAnswers.{RunsOverBy-exists, RunsOverBy-unique}

-- What is at both sides has an answer, also if a side is not there.
pub every_pair_has_an_answer : (limits : Limits) (wish : Asked) (old new : Option (List ℕ)) → 14 ≤ limits.line
    → HasAnswerOver limits wish old new
every_pair_has_an_answer limits wish = RunsOverBy-exists limits (report_over wish)

-- It has only one answer.
pub no_pair_has_two_answers : (limits : Limits) (wish : Asked) (old new : Option (List ℕ)) (r s : Result Report RunFault)
    → RunsOver limits wish old new r → RunsOver limits wish old new s → r ≡ s
no_pair_has_two_answers limits wish = RunsOverBy-unique limits (report_over wish)
