-- Which side is refused, by how often each was opened; and that nothing has gone out before the counting has ended.
use Rattle.std.proofs.Common.{◌≡◌, ◌<◌, ◌≤◌, ◌-◌, ◌^◌, ℕ, ◌+◌, List, [], Option, arith}
use Rattle.std.specs.Io.KnownBytes.{Appends}
use Rattle.aide_entry.specs.Count.{one_more, sum_of}
use Rattle.aide_db.specs.declared.side.Side.{Side}
use Rattle.aide_db.specs.declared.side.Side.TheVariants.{Old, New}
use Rattle.aide_merge.specs.Openings.{OpensExactly, WasOpened, ComesOpened, IsRefusedIn, IsRefusedThere}
use Rattle.aide_merge.specs.RunFaults.{HasSentNothing}
use Rattle.aide_merge.specs.declared.run_fault.RunFault.{RunFault}
use Rattle.aide_merge.specs.declared.run_fault.RunFault.TheVariants.{Open, Write}
use Rattle.aide_text.proofs.Sending.{Appends-nothing}

refused_in : (side : Side) (before middle after : Side → ℕ) (n : ℕ) → OpensExactly before middle n
    → IsRefusedIn middle after side → IsRefusedIn before after side
refused_in Old before middle after n opens is = record {
  passes = n + is.passes;
  of_old = omega (arith, opens.of_old, is.of_old);
  of_new = omega (arith, opens.of_new, is.of_new);
}
refused_in New before middle after n opens is = record {
  passes = n + is.passes;
  of_old = omega (arith, opens.of_old, is.of_old);
  of_new = omega (arith, opens.of_new, is.of_new);
}

-- a side is refused after further passes
pub refused_later : (before middle after : Side → ℕ) (n : ℕ) (fault : RunFault) → OpensExactly before middle n
    → IsRefusedThere middle after fault → IsRefusedThere before after fault
refused_later before middle after n (Open side) opens is = refused_in side before middle after n opens is
refused_later before middle after n _ opens is = tt

-- the old side was opened
pub comes_opened : (before after : ℕ) (fault : RunFault) → after ≡ one_more before → ComesOpened before after fault
comes_opened before after (Write written) is = tt
comes_opened before after _ is = record { passes = 0; of_old = is }

was_opened : (before middle after n : ℕ) → middle ≡ sum_of before n → WasOpened middle after → WasOpened before after
was_opened before middle after n is opened =
    record { passes = n + opened.passes; of_old = omega (arith, is, opened.of_old) }

-- the same after further passes
pub comes_later : (before middle after n : ℕ) (fault : RunFault) → middle ≡ sum_of before n
    → ComesOpened middle after fault → ComesOpened before after fault
comes_later before middle after n (Write written) is opened = tt
comes_later before middle after n _ is opened = was_opened before middle after n is opened

-- where nothing has gone out
pub unsent_nothing : (before_it opened_old opened_new : ℕ) (bytes : Option (List ℕ)) (fault : RunFault)
    → HasSentNothing before_it opened_old opened_new bytes bytes fault
unsent_nothing before_it opened_old opened_new bytes (Write written) = tt
unsent_nothing before_it opened_old opened_new bytes _ = λ below few. Appends-nothing bytes

unsent_opened : (before_it before middle after : ℕ) (old new : Option (List ℕ)) → middle ≡ sum_of before before_it
    → WasOpened middle after
    → after < 2 ^ 64 - 1 → after ≤ before + before_it → Appends old new []
unsent_opened before_it before middle after old new is opened below few =
    absurd (omega (arith, is, opened.of_old, below, few))

-- once the old side is opened again, what has gone out is left open
pub unsent_begun : (before_it before middle after : ℕ) (old new : Option (List ℕ)) (fault : RunFault)
    → middle ≡ sum_of before before_it
    → ComesOpened middle after fault → HasSentNothing before_it before after old new fault
unsent_begun before_it before middle after old new (Write written) is opened = tt
unsent_begun before_it before middle after old new _ is opened = unsent_opened before_it before middle after old new is opened
