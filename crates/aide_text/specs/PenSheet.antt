-- The sheet that a pen and its sink make up.
use Rattle.std.specs.Prelude.{ℕ, Option, List}
use Rattle.aide_text.specs.Sheet.{Sheet}
use Rattle.aide_text.specs.declared.pen.Pen.{Pen}
use Rattle.aide_text.specs.declared.sink.Sink.{Ghosts as Sinks}

-- what contracts see of the sink, and what the pen has counted
abbrev pub sheet : {W : Type 0} → (W → Option (List ℕ)) → (W → ℕ) → (W → ℕ) → W → Pen → Sheet
sheet delivered failures flushes out pen = record {
  bytes = delivered out;
  failures = failures out;
  flushes = flushes out;
  sent = pen.sent;
  failed = pen.failed;
}

-- a pen on a sink of any kind
abbrev pub on_sheet : {W : Type 0} → Sinks W → W → Pen → Sheet
on_sheet w out pen = sheet w.delivered w.failures w.flushes out pen
