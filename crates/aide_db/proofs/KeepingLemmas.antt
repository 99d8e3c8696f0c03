-- What is left of a reel after one more chunk, and what two readings take.
use Rattle.std.proofs.Common.{rules}
use Rattle.std.specs.Prelude.{ℕ, ◌≡◌, true}
use Rattle.aide_db.specs.code.ChunkReaderView.{ChunkReaderView}
use Rattle.aide_db.specs.CursorView.{CursorView}
use Rattle.aide_db.specs.Desk.{columns_of_side, list_of}
use Rattle.aide_db.specs.DeskView.{DeskView}
use Rattle.aide_db.specs.Kept.{IsKept}
use Rattle.aide_db.specs.NextCall.{KeepsCursor, KeepsDesk}
use Rattle.aide_db.specs.NextChunk.{Gives}
use Rattle.aide_db.specs.code.Keeping.{TellsOn}
use Rattle.aide_db.specs.Told.{told, tells}
use Rattle.aide_db.specs.declared.reel.Reel.{Ghosts as Reels}
use Rattle.aide_db.specs.declared.side.Side.{Side}
use Rattle.aide_db.proofs.KeptLemmas.{peak_more}
use Rattle.aide_db.proofs.PieceLemmas.{gives_more}
use Rattle.aide_db.proofs.TakesLemmas.{takes_more}

pub tells_more : {R : Type 0} {r : Reels R} {a b c : ChunkReaderView R} → TellsOn r a b
    → (tells (r.to_come b.reel) ≡ true → tells (r.to_come c.reel) ≡ true)
    → (tells (r.to_come b.reel) ≡ true → Gives (told (r.to_come b.reel)) (told (r.to_come c.reel)) b.hash c.hash)
    → TellsOn r a c
tells_more p goes_on gives = search (rules, gives_more)

-- what two readings one after another leave of a cursor
pub cursor_more : {R : Type 0} {r : Reels R} {a b c : CursorView R} → KeepsCursor r a b → KeepsCursor r b c → KeepsCursor r a c
cursor_more p q = search (rules, gives_more)

-- what they leave of a desk, if the side's entry is still the same between them
pub desk_more : {side : Side} {limit : ℕ} {a b c : DeskView} → KeepsDesk side limit a b → IsKept side a b
    → KeepsDesk side limit b c → KeepsDesk side limit a c
desk_more p own q = search (rules, peak_more)

-- the line that was read is dropped then
pub desk_cleared : {side : Side} {limit : ℕ} {a b c : DeskView} → KeepsDesk side limit a b
    → ((any : Side) → list_of any c ≡ list_of any b) → ((any : Side) → columns_of_side any c ≡ columns_of_side any b)
    → c.peak ≡ b.peak → c.room ≡ b.room → KeepsDesk side limit a c
desk_cleared p lists columns peak room = search rules

-- what two readings one after another took and gave
pub ruleset one_after_another = (takes_more, gives_more)
