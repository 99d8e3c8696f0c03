-- The outcome of the lines of two databases is that of their report.
use Rattle.std.proofs.Common.{◌≡◌, ℕ, List, refl}
use Rattle.aide_merge.specs.Asked.{Asked}
use Rattle.aide_report_specs.specs.Runs.{report_over}
use Rattle.aide_line_run.specs.ChangeLines.{widest}
use Rattle.aide_line_run.specs.Lines.{lines_of_texts}
use Rattle.aide_line_run.specs.Listed.{ListRead}

-- The trusted texts and the list have no part in it.
pub lines_have_the_outcome_of_the_report : (list : ListRead) (wish trusted : Asked) (old new trusted_old trusted_new : List ℕ)
    → (lines_of_texts list wish trusted old new trusted_old trusted_new).outcome ≡ (report_over wish old new).outcome
unfolding lines_of_texts report_over
lines_have_the_outcome_of_the_report list wish trusted old new trusted_old trusted_new = refl

-- the task, with the level at which a report shows most
abbrev pub at_widest : Asked → Asked
at_widest wish = record wish { options = widest wish.options }

-- The outcome is that of the report at that level, and so are the status and the counts.
pub outcome_is_that_of_the_widest_report : (wish : Asked) (old new : List ℕ)
    → (report_over wish old new).outcome ≡ (report_over (at_widest wish) old new).outcome
unfolding report_over
outcome_is_that_of_the_widest_report wish old new = refl
