-- The first bytes have gone out, and the sink has not failed.
use Rattle.std.proofs.Common.{◌≡◌, ◌≤◌, ◌-◌, length, take}
use Rattle.std.specs.Io.KnownBytes.{Appends}
use Rattle.aide_text.proofs.emitting.emit.Given as goal

abbrev pub invariant-loop-at : goal.invariant-loop-at
invariant-loop-at g l = record {
  in_range : l.at ≤ length l.bytes;
  so_far : Appends (g.W.Sink.delivered l.fn.out) (g.W.Sink.delivered l.out) (take l.at l.bytes);
  unfailed : g.W.Sink.failures l.out ≡ g.W.Sink.failures l.fn.out;
  unflushed : g.W.Sink.flushes l.out ≡ g.W.Sink.flushes l.fn.out;
}

abbrev pub decreases-loop-at : goal.decreases-loop-at
decreases-loop-at g l = length l.bytes - l.at
