-- The flush at the end of what is written.
use Rattle.std.specs.Prelude.{◌≡◌, ℕ, true, Result, Ok, Err, IfErr, IfOk, OnOk}
use Rattle.std.specs.Io.KnownBytes.{Keeps}
use Rattle.aide_text.specs.Failures.{CountsFault, CountsFlush}
use Rattle.aide_text.specs.declared.sink.Sink.{Ghosts as Sinks}
use Rattle.aide_merge.specs.declared.run_fault.RunFault.{RunFault}
use Rattle.aide_merge.specs.declared.run_fault.RunFault.TheVariants.{Write}

-- A flush after all was written, which returns the answer of the writing, or says how many bytes were written.
pub record Flushes {W T : Type 0} (s : Sinks W) (a b : W) (sent : ℕ) (answer : T)
    (result : Result T RunFault) : Type 0 where
  pub answers : IfOk result (λ done. done ≡ answer)
  pub breaks : IfErr result (λ fault. fault ≡ Write sent)
  pub bytes : Keeps (s.delivered a) (s.delivered b)
  pub flushed : OnOk result (s.is_flushed b ≡ true)
  pub flushes : CountsFlush (s.flushes a) (s.flushes b) result
  pub fails : CountsFault (s.failures a) (s.failures b) result

-- The sink is flushed if the writing came to its end. Otherwise it stays as it is, and the fault is returned.
abbrev pub EndsFlushed : {W T : Type 0} → Sinks W → (a b : W) → (sent : ℕ)
    → (written result : Result T RunFault) → Type 0
EndsFlushed s a b sent (Ok answer) result = Flushes s a b sent answer result
EndsFlushed s a b sent (Err fault) result = (result ≡ Err fault) × (b ≡ a)
