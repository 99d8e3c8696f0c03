-- Counts of failures and of flushes. They stop at the last value of 64 bits.
use Rattle.std.specs.Prelude.{◌≡◌, ℕ, ◌-◌, ◌^◌, ◌<◌, MatchResult, Result}
pub use Rattle.aide_entry.specs.Count.{one_more}

-- a call that returns a fault counts one failure, and any other call counts none
abbrev pub CountsFault : {T E : Type 0} → ℕ → ℕ → Result T E → Type 0
CountsFault old new result = MatchResult result (λ _. new ≡ old) (λ _. new ≡ one_more old)

-- a flush that succeeds is counted, and one that fails is not
abbrev pub CountsFlush : {T E : Type 0} → ℕ → ℕ → Result T E → Type 0
CountsFlush old new result = MatchResult result (λ _. new ≡ one_more old) (λ _. new ≡ old)

-- the count has risen, unless it has come to its last value
abbrev pub Rose : ℕ → ℕ → Type 0
Rose old new = new < 2 ^ 64 - 1 → old < new
