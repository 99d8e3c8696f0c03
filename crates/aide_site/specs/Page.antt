-- A page before a sink.
use Rattle.std.specs.Prelude.{ℕ, ◌==◌, Bool, List, [], length, Option}
use Rattle.std.specs.Io.KnownBytes.{append_known}

-- the sink, what the page keeps for the sink, and how much of the page is used
pub record Paged (W : Type 0) : Type 0 where
  pub sink : W
  pub waiting : List ℕ
  pub used : ℕ

-- an empty page before a sink
abbrev pub empty_page : {W : Type 0} → W → Paged W
empty_page sink = record { sink = sink; waiting = []; used = 0 }

-- the bytes that were written into the sink and onto the page, if the sink shows its own bytes
abbrev pub known_of : {W : Type 0} → (W → Option (List ℕ)) → Paged W → Option (List ℕ)
known_of delivered s = append_known (delivered s.sink) s.waiting

-- no byte waits on the page
abbrev pub none_waits : List ℕ → Bool
none_waits waiting = length waiting == 0
