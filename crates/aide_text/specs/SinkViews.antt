-- What contracts see of the sinks of this crate.
use Rattle.std.specs.Prelude.{ℕ, List, Bool}

-- a device, how often it has failed and was flushed, and whether it was flushed after the last write
pub record WriteSinkView (Device : Type 0) : Type 0 where
  pub device : Device
  pub failures : ℕ
  pub flushes : ℕ
  pub is_flushed : Bool

-- the bytes that a sink in memory keeps, how often it has failed, and how often it was flushed
pub record MemorySinkView : Type 0 where
  pub bytes : List ℕ
  pub failures : ℕ
  pub flushes : ℕ
