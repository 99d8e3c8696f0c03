-- What private calls keep of a cursor, its chunks and its desk.
use Rattle.std.specs.Prelude.{ℕ, ◌≡◌, ◌≤◌, ◌<◌, ◌+◌, ◌^◌, max, true, false, List, length, Result, IfErr}
use Rattle.aide_db.specs.Again.{StageAfter, StageAfterLine}
use Rattle.aide_db.specs.code.ChunkReaderView.{ChunkReaderView}
use Rattle.aide_db.specs.CursorView.{CursorView}
use Rattle.aide_db.specs.Desk.{columns_of_side, held_of, list_of}
use Rattle.aide_db.specs.DeskView.{DeskView}
use Rattle.aide_db.specs.Holds.{IsDone}
use Rattle.aide_db.specs.Kept.{OwnAfter, UsesMore, UsesTaken, IsNoRecord, peak_limit}
use Rattle.aide_db.specs.Memory.{GoesOn, HasMemory, wants_memory}
use Rattle.aide_db.specs.NextCall.{KeepsOtherSide}
use Rattle.aide_db.specs.NextChunk.{Gives}
use Rattle.aide_db.specs.Takes.{SpentAnswer, SpentAt, SpentTaken}
use Rattle.aide_db.specs.Told.{told, tells}
use Rattle.aide_entry.specs.declared.column.Column.{Column}
use Rattle.aide_db.specs.declared.fault.DbFault.{DbFault}
use Rattle.aide_db.specs.declared.limits.Limits.{Limits}
use Rattle.aide_db.specs.declared.reel.Reel.{Ghosts as Reels}
use Rattle.aide_db.specs.declared.side.Side.{Side}
use Rattle.aide_db.specs.declared.judge.Judgement.{Judgement}
use Rattle.aide_db.specs.declared.step.Step.{Step}
use Rattle.aide_db.specs.declared.take_line.Taken.{Taken}

-- ---- chunks

-- The byte limit holds for what was used of a database and for what is ahead.
pub record IsWithinLimit (limits : Limits) (used : ℕ) (ahead : List ℕ) : Type 0 where
  -- the limit is kept
  pub within : used ≤ limits.bytes
  -- at most one byte after the limit was taken from the reel
  pub given : used + length ahead ≤ limits.bytes + 1
  -- the limit is one that a cursor may have
  pub bytes : limits.bytes ≤ 2 ^ 60

-- What taking bytes makes of the numbers of bytes used and of newlines among them.
pub record CountsOn (used line used_now line_now : ℕ) : Type 0 where
  -- neither falls
  pub grows : used ≤ used_now
  pub counts : line ≤ line_now
  -- each newline is a byte that was used
  pub fits : line_now ≤ used_now

-- What taking bytes leaves of a reel that shows its bytes.
pub record TellsOn {R : Type 0} (r : Reels R) (a b : ChunkReaderView R) : Type 0 where
  -- the reel still shows them
  pub goes_on : tells (r.to_come a.reel) ≡ true → tells (r.to_come b.reel) ≡ true
  -- some or none of the first ones came, and they were hashed
  pub gives : tells (r.to_come a.reel) ≡ true
      → Gives (told (r.to_come a.reel)) (told (r.to_come b.reel)) a.hash b.hash

-- ---- the desk

-- What taking a line leaves of a desk.
pub record HoldsLine (limits : Limits) (d e : DeskView) : Type 0 where
  -- both entry lines and their columns are as before
  pub lists : (side : Side) → list_of side e ≡ list_of side d
  pub columns : (side : Side) → columns_of_side side e ≡ columns_of_side side d
  -- the reserved room stays
  pub room : e.room ≡ d.room
  -- the line is within the limit
  pub short : length e.line ≤ limits.line
  -- the peak does not fall, and a line within the limit bounds it
  pub peak : d.peak ≤ e.peak
  pub below : (side : Side) → e.peak ≤ peak_limit side d limits.line
  -- the bytes that are held then were counted
  pub grown : e.peak ≡ max d.peak (held_of e)

-- What judging the line that was taken leaves of a desk.
pub record HoldsJudged (side : Side) (d e : DeskView) (columns : List Column)
    (result : Judgement) : Type 0 where
  -- the other side and the room
  pub other : KeepsOtherSide side d e
  -- at an entry the side has a new entry line, and otherwise its entry is as before
  pub own : OwnAfter side d e columns (length d.line) result
  -- the peak is as before
  pub peak : e.peak ≡ d.peak

-- ---- the cursor

-- A call that takes no byte from the reel and uses none.
pub record KeepsBytes {R : Type 0} (c e : CursorView R) : Type 0 where
  -- the reel, and the bytes that it gave and that were not used yet
  pub reel : e.reel ≡ c.reel
  pub ahead : e.ahead ≡ c.ahead
  -- the hash of all bytes that it gave
  pub hash : e.hash ≡ c.hash
  -- how many were used
  pub used : e.used ≡ c.used

-- ---- outcomes

-- What the outcome of taking a line says, given the room of the desk.
pub record IsOutcomeOfTaking (limits : Limits) (room used used_now : ℕ) (ahead : List ℕ)
    (result : Taken) : Type 0 where
  -- the number of bytes used does not fall, and if a line is taken it rises
  pub uses : UsesTaken used used_now result
  -- if the device failed, all bytes that it gave have been used
  pub spent : SpentTaken ahead result
  -- if the room takes each line, no allocation fails
  pub memory : limits.line ≤ room → HasMemory result

-- What the outcome of one more line says about the cursor and the desk.
pub record IsOutcomeOfLine {R : Type 0} (c e : CursorView R) (d f : DeskView)
    (result : Judgement) : Type 0 where
  -- at an entry the side has a new entry line, and otherwise its entry is as before
  pub own : OwnAfter c.side d f e.columns c.limits.line result
  -- the number of bytes used does not fall, and at a line or an entry it rises
  pub uses : UsesMore c.used e.used result
  -- if the device failed, all bytes that it gave have been used
  pub spent : SpentAt e.ahead result
  -- after an entry the cursor is among the entries
  pub staged : StageAfterLine e.stage result
  -- if the room takes each line, no allocation fails
  pub memory : c.limits.line ≤ d.room → GoesOn result

-- What the answer after the end line says about the cursor.
pub record IsOutcomeOfEnd {R : Type 0} (c e : CursorView R)
    (result : Result Step DbFault) : Type 0 where
  -- the cursor has come to an end or a fault, which is the answer
  pub done : IsDone e.stage
  pub staged : StageAfter e.stage result
  -- the answer is not an entry, and not out of memory
  pub no_record : IsNoRecord result
  pub memory : wants_memory result ≡ false
  -- a fault is the side's own, and its line comes after the end line
  pub own : IfErr result (λ fault. fault.side ≡ c.side)
  pub behind : IfErr result (λ fault. c.line < fault.line)
  -- if the device failed, all bytes that it gave have been used
  pub spent : SpentAnswer e.ahead result
  -- the number of bytes used does not fall
  pub uses : c.used ≤ e.used
  -- the columns are as before
  pub columns : e.columns ≡ c.columns
