-- What a call of a cursor keeps, and what its answer says.
use Rattle.std.specs.Prelude.{ℕ, ◌≡◌, ◌≤◌, ◌+◌, max, true, false, List, length, Result, IfErr}
use Rattle.aide_entry.specs.Cause.{is_outside}
use Rattle.aide_db.specs.Again.{IsAgain, StageAfter, UnlessDone}
use Rattle.aide_db.specs.Answer.{Answers, IsUpTo, StandsWith}
use Rattle.aide_db.specs.CursorView.{CursorView}
use Rattle.aide_db.specs.Database.{IsSound}
use Rattle.aide_db.specs.Desk.{columns_of_side, list_of}
use Rattle.aide_db.specs.DeskView.{DeskView}
use Rattle.aide_db.specs.Failures.{failures_from}
use Rattle.aide_db.specs.Kept.{OwnAnswer, UsesAnswer, peak_limit}
use Rattle.aide_db.specs.Longest.{longest_line}
use Rattle.aide_db.specs.Memory.{wanted_memory, wants_memory}
use Rattle.aide_db.specs.NextChunk.{Gives}
use Rattle.aide_db.specs.Side.{other_side}
use Rattle.aide_db.specs.Takes.{SpentAnswer}
use Rattle.aide_db.specs.Told.{told, tells}
use Rattle.aide_db.specs.declared.fault.DbFault.{DbFault}
use Rattle.aide_db.specs.declared.reel.Reel.{Ghosts as Reels}
use Rattle.aide_db.specs.declared.side.Side.{Side}
use Rattle.aide_db.specs.declared.step.Step.{Step}

-- What a call for one side leaves of the other side.
pub record KeepsOtherSide (side : Side) (d e : DeskView) : Type 0 where
  -- the other side's entry line and its columns are as before
  pub other_list : list_of (other_side side) e ≡ list_of (other_side side) d
  pub other_columns : columns_of_side (other_side side) e ≡ columns_of_side (other_side side) d
  -- the reserved room stays
  pub room : e.room ≡ d.room

-- What one more line of a side, of at most this many bytes, leaves of a desk.
pub record KeepsDesk (side : Side) (limit : ℕ) (d e : DeskView) : Type 0 where
  -- the other side and the room
  pub other : KeepsOtherSide side d e
  -- the peak does not fall, and a line of this length bounds it
  pub peak : d.peak ≤ e.peak
  pub below : e.peak ≤ peak_limit side d limit

-- What taking bytes leaves of a cursor.
pub record KeepsCursor {R : Type 0} (r : Reels R) (c e : CursorView R) : Type 0 where
  -- its side and its limits
  pub side : e.side ≡ c.side
  pub limits : e.limits ≡ c.limits
  -- a reel that shows its bytes still does, and some or none of the first ones came and were hashed
  pub goes_on : tells (r.to_come c.reel) ≡ true → tells (r.to_come e.reel) ≡ true
  pub gives : tells (r.to_come c.reel) ≡ true
      → Gives (told (r.to_come c.reel)) (told (r.to_come e.reel)) c.hash e.hash
  -- the byte limit is kept, and at most one byte after it was taken from the reel
  pub within : e.used ≤ e.limits.bytes
  pub given : e.used + length e.ahead ≤ e.limits.bytes + 1

-- What a call of `next` says of a text that the cursor represented before it.
pub record IsNextOf {R : Type 0} (r : Reels R) (c e : CursorView R) (d f : DeskView)
    (result : Result Step DbFault) (text : List ℕ) : Type 0 where
  -- it still represents the text
  pub keeps : StandsWith r.to_come c.side e f text
  -- the answer is the next entry, the end or the first fault
  pub answers : Answers c e d f text result
  -- A sound text has no fault except out of memory and a failed read, so without these its end is reached.
  pub unsound : IfErr result (λ fault. is_outside fault.kind ≡ false → IsSound c.limits text → ⊥)
  -- At a fault, no entry before its line is left out, and the columns are those of the spec line before it, if any.
  pub up_to : UnlessDone c.stage (IsUpTo c e text result)
  -- the longest line of the text bounds the peak, as the limit does
  pub long : f.peak ≤ peak_limit c.side d (longest_line c.limits text)
  -- the entry is as it was, or no longer than the longest line
  pub short : length (list_of c.side f)
      ≤ max (length (list_of c.side d)) (longest_line c.limits text)

-- What the answer of `next` says about the cursor and the desk, for any reel.
pub record IsOutcomeOfNext {R : Type 0} (r : Reels R) (c e : CursorView R) (d f : DeskView)
    (result : Result Step DbFault) : Type 0 where
  -- at an entry the side has a new entry line, and otherwise its entry is as before
  pub own : OwnAnswer c.side d f e.columns c.limits.line result
  -- the number of bytes used does not fall, and at an entry it rises
  pub uses : UsesAnswer c.used e.used result
  -- if the device fails now, all bytes that it gave have been used
  pub spent : UnlessDone c.stage (SpentAnswer e.ahead result)
  -- if the reserved room takes each line, the call never runs out of memory
  pub memory : c.limits.line ≤ d.room → wants_memory result ≡ true → wanted_memory c.stage ≡ true
  -- the end or the fault is kept, and after it the answer is the same again
  pub stage : StageAfter e.stage result
  pub again : IsAgain c.side c.stage result
  -- a fault is of the cursor's side
  pub fault : IfErr result (λ fault. fault.side ≡ c.side)
  -- a failed read comes with a failure that the reel counted
  pub failures : r.failures e.reel ≡ failures_from c.stage result (r.failures c.reel)
