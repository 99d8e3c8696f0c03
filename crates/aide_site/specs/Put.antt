-- What was put on standard error.
use Rattle.std.specs.Prelude.{◌≡◌, ℕ, ◌≤◌, ◌<◌, ◌-◌, ◌^◌, List, Option}
use Rattle.std.specs.Io.KnownBytes.{Appends}
use Rattle.aide_text.specs.declared.sink.Sink.{Ghosts as Sinks}

-- No failure was counted: the count of failures is as before. It has not reached its last value, so
-- it would have risen.
abbrev pub HasNoFailure : ℕ → ℕ → Type 0
HasNoFailure before after = (after ≡ before) × (after < 2 ^ 64 - 1)

-- If the sink counts no failure, exactly this text was put there.
pub record Put (text : List ℕ) (old new : Option (List ℕ)) (before after : ℕ) : Type 0 where
  pub never_falls : before ≤ after
  pub exact : HasNoFailure before after → Appends old new text

-- the same on a sink of any kind
abbrev pub PutOn : {E : Type 0} → List ℕ → Sinks E → E → E → Type 0
PutOn text e old new =
    Put text (e.delivered old) (e.delivered new) (e.failures old) (e.failures new)
