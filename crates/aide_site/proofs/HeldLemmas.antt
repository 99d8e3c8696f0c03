-- What a session holds at once.
use Rattle.std.proofs.Common.{◌≡◌, ◌≤◌, ℕ, arith}
use Rattle.std.proofs.Math.Path.{subst}
use Rattle.aide_site.specs.Answer.{Named}
use Rattle.aide_site.specs.Files.{Files}
use Rattle.aide_site.specs.Held.{HoldsWithin}

-- a desk that is left alone
pub same_held : (files : Files) (named : Named) (peak : ℕ) → HoldsWithin files named peak peak
same_held files named peak = λ old new has_old has_new. omega arith

-- the same files
pub held_over : (files later : Files) (named : Named) (before after : ℕ) → later ≡ files
    → HoldsWithin later named before after → HoldsWithin files named before after
held_over files later named before after same held =
    subst (λ (f : Files). HoldsWithin f named before after) same held

-- a desk with room for the longest line that is allowed
pub room_enough : (room : ℕ) → room ≡ 1048576 → 1048576 ≤ room
room_enough room is = omega (arith, is)

-- a desk whose peak has stayed
pub held_still : (files : Files) (named : Named) (before after : ℕ) → after ≡ before
    → HoldsWithin files named before after
held_still files named before after same = λ old new has_old has_new. omega (arith, same)

-- a count that has stayed twice
pub stayed : (first middle last : ℕ) → middle ≡ first → last ≡ middle → first ≤ last
stayed first middle last one two = omega (arith, one, two)
