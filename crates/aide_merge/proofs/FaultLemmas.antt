-- The faults of a reading, by cases.
use Rattle.std.proofs.Common.{sym, subst, ap, arith, ◌∙◌, ◌≡◌, ◌<◌, ◌≤◌, ℕ, List, Option}
use Rattle.aide_db.specs.declared.limits.Limits.{Limits}
use Rattle.aide_db.specs.declared.side.Side.{Side}
use Rattle.aide_db.specs.declared.side.Side.TheVariants.{Old, New}
use Rattle.aide_merge.specs.RunFaults.{IsFirst, IsRight}
use Rattle.aide_text.specs.Failures.{Rose}
use Rattle.aide_merge.specs.declared.run_fault.RunFault.{RunFault}
use Rattle.aide_merge.specs.declared.run_fault.RunFault.TheVariants.{Open, Database}
use Rattle.aide_entry.specs.Count.{one_more, sum_of}
use Rattle.aide_db.specs.Side.{by_side}
use Rattle.aide_merge.specs.Openings.{IsRefusedIn, IsRefusedThere}

-- what has risen since a later count has risen since an earlier one
pub rose_since : (before middle after : ℕ) → before ≤ middle → Rose middle after → Rose before after
rose_since before middle after le rose below = let risen = rose below in omega (arith, le, risen)

pub none_failed : (n : ℕ) → n ≡ 0 → 0 < n → ⊥
none_failed n none some = omega (arith, none, some)

pub right_first : (limits : Limits) (bytes_of : Side → Option (List ℕ)) (side : Side) (fault : RunFault)
    → IsFirst limits bytes_of side fault → IsRight limits bytes_of fault
right_first limits bytes_of side (Open opened) first = tt
right_first limits bytes_of side (Database fault) first = λ text told. first.1 text (ap bytes_of (sym first.0) ∙ told)
right_first limits bytes_of side _ first = absurd first

-- the old side is refused where it was opened once more, the new one where both were
pub refused_first : (limits : Limits) (bytes_of : Side → Option (List ℕ)) (side : Side) (before after : Side → ℕ) (fault : RunFault)
    → after Old ≡ one_more (before Old) → after New ≡ sum_of (before New) (by_side 0 1 side)
    → IsFirst limits bytes_of side fault → IsRefusedThere before after fault
refused_first limits bytes_of Old before after (Open side) of_old of_new is =
    subst (IsRefusedIn before after) (sym is) (record { passes = 0; of_old = of_old; of_new = of_new })
refused_first limits bytes_of New before after (Open side) of_old of_new is =
    subst (IsRefusedIn before after) (sym is) (record { passes = 0; of_old = of_old; of_new = of_new })
refused_first limits bytes_of side before after (Database fault) of_old of_new is = tt
refused_first limits bytes_of side before after _ of_old of_new is = tt
