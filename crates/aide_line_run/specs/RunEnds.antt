-- What a run with a trusted pair returns, and what it leaves.
use Rattle.std.specs.Prelude.{◌≡◌, ◌≤◌, ◌*◌, ℕ, ◌⊎◌, Option, Some, None, Result, Ok, Err, List}
use Rattle.std.specs.Prelude.{◌++◌, max, true}
use Rattle.std.specs.Io.KnownBytes.{Appends}
use Rattle.aide_db.specs.Database.{IsSound}
use Rattle.aide_db.specs.Longest.{longest_line}
use Rattle.aide_db.specs.Map.{database_of, entries_of}
use Rattle.aide_db.specs.declared.fault.DbFault.{DbFault}
use Rattle.aide_db.specs.declared.limits.Limits.{Limits}
use Rattle.aide_db.specs.declared.side.Side.TheVariants.{Old, New}
use Rattle.aide_fields.specs.Path.{path_cmp}
use Rattle.aide_merge.specs.Asked.{Asked}
use Rattle.aide_merge.specs.Bound.{three_lines}
use Rattle.aide_merge.specs.Compare.{changes}
use Rattle.aide_merge.specs.Said.{PathChange}
use Rattle.aide_line_run.specs.Stops.{ComesOf}
use Rattle.aide_merge.specs.Outcomes.{outcome_over}
use Rattle.aide_merge.specs.RightAnswer.{IsOfReliable}
use Rattle.aide_merge.specs.Openings.{IsNotGiven, IsRefusedThere, OpensAtMost}
use Rattle.aide_merge.specs.Room.{IsNotOfMemory}
use Rattle.aide_merge.specs.RunFaults.{IsRight}
use Rattle.aide_merge.specs.RightAnswer.{Report, RunsBy, RunsOverBy}
use Rattle.aide_merge.specs.Merged.{merged}
use Rattle.aide_merge.specs.declared.outcome.Outcome.{Outcome}
use Rattle.aide_merge.specs.declared.run_fault.RunFault.{RunFault}
use Rattle.aide_merge.specs.declared.run_fault.RunFault.TheVariants.{Write}
use Rattle.aide_text.specs.Failures.{Rose}
use Rattle.aide_text.specs.Sent.{SendsPart}
use Rattle.aide_line_run.specs.BeforeFault.{FourTexts}
use Rattle.aide_line_run.specs.ChangeLines.{change_lines}
use Rattle.aide_line_run.specs.Lines.{BeginsLines, by_texts, first_line, lines_of_texts}
use Rattle.aide_line_run.specs.Listed.{ListRead, leaves_between}
use Rattle.aide_line_run.specs.PairSeen.{Gives, PairSeen}
use Rattle.aide_line_run.specs.declared.pair_fault.PairFault.{PairFault}
use Rattle.aide_line_run.specs.declared.pair_fault.PairFault.TheVariants.{Compared, Trusted}

-- ---- the right answer

-- what is to be written over four sides that are there
abbrev pub over_sides : (List ℕ → List ℕ → List ℕ → List ℕ → Report)
    → (old new trusted_old trusted_new : Option (List ℕ))
    → Option Report
over_sides over (Some old) (Some new) (Some trusted_old) (Some trusted_new) =
    Some (over old new trusted_old trusted_new)
over_sides over _ _ _ _ = None

-- The answer, by the answers over both pairs, an outcome or a fault each: the fault of the compared pair comes before
-- one of the trusted pair. If neither pair has a fault, the answer is what is to be written.
abbrev pub answer_by : (compared trusted : Result Outcome RunFault) → Option Report
    → Result Report PairFault
    → Type 0
answer_by (Err fault) trusted over r = r ≡ Err (Compared fault)
answer_by (Ok outcome) (Err fault) over r = r ≡ Err (Trusted fault)
answer_by (Ok outcome) (Ok other) None r = ⊥
answer_by (Ok outcome) (Ok other) (Some over) r = r ≡ Ok over

-- The right answer, by what is at all four sides.
pub record RunsLines (limits : Limits) (list : ListRead) (asked trusted_asked : Asked)
    (old new trusted_old trusted_new : Option (List ℕ))
    (r : Result Report PairFault) : Type 0 where
  pub compared : Result Outcome RunFault
  pub trusted : Result Outcome RunFault
  pub compared_runs : RunsOverBy limits (outcome_over asked.options) old new compared
  pub trusted_runs : RunsOverBy limits (outcome_over trusted_asked.options)
      trusted_old trusted_new trusted
  pub answer : answer_by compared trusted
      (over_sides (lines_of_texts list asked trusted_asked) old new trusted_old trusted_new) r

-- ---- how a run ends

-- a run stops with the fault that is the answer, or with a fault that keeps the run from its answer
abbrev pub StopsForPair : Result Report PairFault → (PairFault → Type 0) → PairFault → Type 0
StopsForPair (Ok report) hindered fault = hindered fault
StopsForPair (Err right) hindered fault = (fault ≡ right) ⊎ hindered fault

-- all of the answer's lines have been written, and its outcome is returned
abbrev pub SendsWholeOf : Result Report PairFault → Outcome → Option (List ℕ) → Option (List ℕ)
    → Type 0
SendsWholeOf (Ok report) outcome before after = (report.outcome ≡ outcome)
    × Appends before after report.text
SendsWholeOf (Err right) outcome before after = ⊥

-- a run ends with this answer and all that goes with it, unless a fault keeps the run from it
abbrev pub EndsLines : Result Report PairFault → (PairFault → Type 0) → Result Outcome PairFault
    → Option (List ℕ) → Option (List ℕ) → Type 0
EndsLines r hindered (Ok outcome) before after = SendsWholeOf r outcome before after
EndsLines r hindered (Err fault) before after = StopsForPair r hindered fault

-- ---- what has been written at a fault

-- all four texts are sound
pub record AreAllSound (limits : Limits) (old new trusted_old trusted_new : List ℕ) : Type 0 where
  pub of_old : IsSound limits old
  pub of_new : IsSound limits new
  pub of_trusted_old : IsSound limits trusted_old
  pub of_trusted_new : IsSound limits trusted_new

-- the changes of all entry lines of two texts, sound or not
abbrev pub changes_between : (old new : List ℕ) → List PathChange
changes_between old new = merged path_cmp (entries_of old) (entries_of new)

-- Never a byte of the last line, unless all four texts are sound and a write has failed.
abbrev pub CutsLines : Limits → ListRead → (asked trusted : Asked)
    → (old new trusted_old trusted_new : List ℕ)
    → (before after : Option (List ℕ)) → PairFault
    → Type 0
CutsLines limits list asked trusted old new trusted_old trusted_new before after
    (Compared (Write written)) =
    (AreAllSound limits old new trusted_old trusted_new
    → SendsPart (lines_of_texts list asked trusted old new trusted_old trusted_new).text
    before after)
    × ((AreAllSound limits old new trusted_old trusted_new → ⊥)
    → BeginsLines (leaves_between list old new) asked trusted
    (changes_between old new) (changes_between trusted_old trusted_new) before after)
CutsLines limits list asked trusted old new trusted_old trusted_new before after _ =
    BeginsLines (leaves_between list old new) asked trusted
    (changes_between old new) (changes_between trusted_old trusted_new) before after

-- the first line, and a line for each added, removed or changed entry of four texts
abbrev pub lines_before_last : ListRead → (asked trusted : Asked) → FourTexts → List ℕ
lines_before_last list asked trusted texts = first_line asked trusted
    ++ change_lines asked.options
    (by_texts list texts.old texts.new texts.trusted_old texts.trusted_new)
    (changes (database_of texts.old) (database_of texts.new))

-- A beginning of the lines over what comes before the first fault of each text: no faulty line has a part in what has
-- been written, and none after it.
abbrev pub CutsFronts : Limits → ListRead → (asked trusted : Asked) → (texts fronts : FourTexts)
    → (before after : Option (List ℕ)) → PairFault
    → Type 0
CutsFronts limits list asked trusted texts fronts before after (Compared (Write written)) =
    (AreAllSound limits texts.old texts.new texts.trusted_old texts.trusted_new → ⊥)
    → SendsPart (lines_before_last list asked trusted fronts) before after
CutsFronts limits list asked trusted texts fronts before after _ =
    SendsPart (lines_before_last list asked trusted fronts) before after

-- ---- what a run leaves of each pair

-- What a run leaves of the sources of a pair and of its desk, whatever its end.
pub record LeavesPair (limits : Limits) (p : PairSeen) : Type 0 where
  -- the count of failures does not fall
  pub never_falls : p.before.failures ≤ p.after.failures
  -- no file was looked up
  pub lookups : p.after.lookups ≡ p.before.lookups
  -- no side was opened more than once
  pub opens_some : OpensAtMost p.before.openings p.after.openings 1
  -- the most that was ever held on the desk does not fall, and rises at most to three lines as long as the limit
  pub peak : p.desk_before.peak ≤ p.desk_after.peak
  pub below : p.desk_after.peak ≤ max p.desk_before.peak (3 * limits.line)
  -- and at most to the longest line of each text and one more line as long as the longer of these
  pub bound : (old new : List ℕ) → Gives p old new → p.desk_after.peak ≤ max p.desk_before.peak
      (three_lines (longest_line limits old) (longest_line limits new))
  -- the reserved room stays
  pub room : p.desk_after.room ≡ p.desk_before.room

-- the fault is the answer over the texts of a pair
abbrev pub IsAnswerOver : Limits → PairSeen → DbFault → Type 0
IsAnswerOver limits p fault = (old new : List ℕ) → p.before.bytes_of Old ≡ Some old
    → p.before.bytes_of New ≡ Some new
    → (r : Result Outcome DbFault) → RunsBy limits (outcome_over p.asked.options) old new r
    → r ≡ Err fault

-- What a fault of a pair means: the same as in a run over only this pair.
pub record IsFaultOfPair (limits : Limits) (p : PairSeen) (sink : Type 0)
    (fault : RunFault) : Type 0 where
  -- a fault of a text is its first one, and no side is called changed
  pub right : IsRight limits p.before.bytes_of fault
  -- a device, memory, the first fault of the pair, or the sink: there is no other cause
  pub cause : ComesOf fault (Rose p.before.failures p.after.failures) sink (IsAnswerOver limits p)
  -- a side that could not be opened is the one that was opened last
  pub refused : IsRefusedThere p.before.openings p.after.openings fault
  -- that opening is not known to have succeeded
  pub not_given : IsNotGiven p.after.was_given fault
  -- reliable sources fail only at a side that has no bytes
  pub reliable : p.before.is_reliable ≡ true → IsOfReliable p.before.bytes_of fault
  -- no allocation fails if the longest allowed line fits into the reserved room
  pub memory : limits.line ≤ p.desk_before.room → IsNotOfMemory fault
