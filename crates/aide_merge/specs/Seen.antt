-- What contracts see of the devices of a run at one moment, and what each call over the sources keeps.
use Rattle.std.specs.Prelude.{ℕ, ◌≡◌, ◌≤◌, ◌^◌, Bool, Option, List}
use Rattle.aide_entry.specs.Count.{one_more}
use Rattle.aide_db.specs.Side.{other_side}
use Rattle.aide_db.specs.declared.limits.Limits.{Limits}
use Rattle.aide_db.specs.declared.side.Side.{Side}
use Rattle.aide_db.specs.declared.sources.Sources.{Ghosts as AnySources}
use Rattle.aide_text.specs.declared.sink.Sink.{Ghosts as AnySink}

-- All that contracts say about the sources at one moment.
pub record Seen : Type 0 where
  -- the bytes that each opening of a side gives, if the sources report them
  pub bytes_of : Side → Option (List ℕ)
  -- the bytes that the opening of a side with a number gives, if the sources report them
  pub bytes_at : Side → ℕ → Option (List ℕ)
  -- whether a side is reported to be missing
  pub is_missing : Side → Bool
  -- whether only the opening of a side that has no bytes can fail
  pub is_reliable : Bool
  -- how often each side was opened
  pub openings : Side → ℕ
  -- how often a device has failed
  pub failures : ℕ
  -- how often a file that is no side was opened
  pub lookups : ℕ
  -- whether the last opening of a side is known to have succeeded
  pub was_given : Side → Bool

-- all that contracts say about sources of any kind
abbrev pub seen : {S R : Type 0} → AnySources S R → S → Seen
seen s sources = record {
  bytes_of = s.bytes_of sources;
  bytes_at = s.bytes_at sources;
  is_missing = s.is_missing sources;
  is_reliable = s.is_reliable sources;
  openings = s.openings sources;
  failures = s.failures sources;
  lookups = s.lookups sources;
  was_given = s.was_given sources;
}

-- All that contracts say about a sink at one moment.
pub record SinkSeen : Type 0 where
  -- the bytes that have been written, if the device shows them
  pub delivered : Option (List ℕ)
  -- how often the device has failed
  pub failures : ℕ
  -- how often it was flushed
  pub flushes : ℕ
  -- whether all bytes that have been written have been flushed
  pub is_flushed : Bool

-- all that contracts say about a sink of any kind
abbrev pub sink_seen : {W : Type 0} → AnySink W → W → SinkSeen
sink_seen w sink = record {
  delivered = w.delivered sink;
  failures = w.failures sink;
  flushes = w.flushes sink;
  is_flushed = w.is_flushed sink;
}

-- The limits allow the shortest spec line, and no sum of bytes overflows.
pub record AreLimits (limits : Limits) : Type 0 where
  pub line : 14 ≤ limits.line
  pub bytes : limits.bytes ≤ 2 ^ 60

-- A call over the sources leaves everything but its openings and failures as it was.
pub record KeepsSources (a b : Seen) : Type 0 where
  -- each side gives the same bytes as before
  pub same : b.bytes_of ≡ a.bytes_of
  -- each opening of a side gives the same bytes as before
  pub at_same : b.bytes_at ≡ a.bytes_at
  -- the same sides are missing
  pub missing_same : b.is_missing ≡ a.is_missing
  -- the sources are as reliable as before
  pub reliable_same : b.is_reliable ≡ a.is_reliable
  -- no other file was opened
  pub lookups : b.lookups ≡ a.lookups
  -- the count of failures does not fall
  pub never_falls : a.failures ≤ b.failures

-- One side was opened once, the other side not at all.
pub record OpensOnce (a b : Seen) (side : Side) : Type 0 where
  pub opens : b.openings side ≡ one_more (a.openings side)
  pub others : b.openings (other_side side) ≡ a.openings (other_side side)
