-- What a pen has written to a sink.
use Rattle.std.specs.Prelude.{◌≡◌, ◌<◌, ℕ, Bool, true, false, Option, List, [], ◌++◌, length}
use Rattle.std.specs.Io.KnownBytes.{Appends}
use Rattle.aide_entry.specs.Count.{sum_of}
use Rattle.aide_text.specs.Failures.{one_more}

-- The bytes that the sink has taken, and how often the sink has failed and was flushed. How many bytes the pen has
-- counted, and whether the pen has failed and writes no more.
pub record Sheet : Type 0 where
  pub bytes : Option (List ℕ)
  pub failures : ℕ
  pub flushes : ℕ
  pub sent : ℕ
  pub failed : Bool

-- these bytes have been written and are counted, up to the last value of 64 bits
pub record Adds (text : List ℕ) (a b : Sheet) : Type 0 where
  pub bytes : Appends a.bytes b.bytes text
  pub count : b.sent ≡ sum_of a.sent (length text)

-- the beginning of the text has been written, not all of it, and then the sink has failed
pub record Breaks (text : List ℕ) (a b : Sheet) : Type 0 where
  pub front : List ℕ
  pub rest : List ℕ
  pub whole : text ≡ front ++ rest
  pub fewer : length front < length text
  pub adds : Adds front a b
  pub failures : b.failures ≡ one_more a.failures

-- What a pen has written. The two flags say whether it had failed before the call, and whether it has after it.
abbrev pub WroteBy : Bool → Bool → List ℕ → Sheet → Sheet → Type 0
WroteBy true after text a b = (after ≡ true) × (b ≡ a)
WroteBy false true text a b = Breaks text a b
WroteBy false false text a b = Adds text a b × (b.failures ≡ a.failures)

-- The text has been written, or its beginning has and then the sink has failed. A pen that has failed before writes
-- nothing. The sink is not flushed.
pub record Wrote (text : List ℕ) (a b : Sheet) : Type 0 where
  pub as_flags : WroteBy a.failed b.failed text a b
  pub flushes : b.flushes ≡ a.flushes

-- all of the text but this rest has been written
pub record Writing (text rest : List ℕ) (a b : Sheet) : Type 0 where
  pub front : List ℕ
  pub whole : text ≡ front ++ rest
  pub wrote : Wrote front a b

-- the beginning of the text has been written
pub record WritesPart (text : List ℕ) (a b : Sheet) : Type 0 where
  pub rest : List ℕ
  pub writing : Writing text rest a b

-- some bytes have been written
pub record WritesSome (a b : Sheet) : Type 0 where
  pub text : List ℕ
  pub wrote : Wrote text a b

-- the text has been written, and more bytes follow it only if more are wanted
pub record WritesFirst (text : List ℕ) (wants_more : Bool) (a b : Sheet) : Type 0 where
  pub rest : List ℕ
  pub wrote : Wrote (text ++ rest) a b
  pub alone : wants_more ≡ false → rest ≡ []
