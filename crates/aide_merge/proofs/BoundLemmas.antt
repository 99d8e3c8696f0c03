-- What is held stays within its bound.
use Rattle.std.specs.Prelude.{◌≡◌, ◌≤◌, ◌*◌, ℕ, max, Option, Some, Result, Ok, List, [], length}
use Rattle.std.proofs.Common.{refl, ap, sym, subst, arith, inl, inr, rules}
use Rattle.aide_db.specs.CursorView.{CursorView}
use Rattle.aide_db.specs.Desk.{list_of}
use Rattle.aide_db.specs.DeskView.{DeskView}
use Rattle.aide_db.specs.Kept.{IsKept, OwnAnswer, peak_limit}
use Rattle.aide_db.specs.Longest.{longest_line}
use Rattle.aide_db.specs.Side.{by_side, other_side}
use Rattle.aide_entry.specs.declared.column.Column.{Column}
use Rattle.aide_db.specs.declared.fault.DbFault.{DbFault}
use Rattle.aide_db.specs.declared.limits.Limits.{Limits}
use Rattle.aide_db.specs.declared.side.Side.{Side}
use Rattle.aide_db.specs.declared.side.Side.TheVariants.{Old, New}
use Rattle.aide_db.specs.declared.step.Step.{Step}
use Rattle.aide_db.specs.declared.step.Step.TheVariants.{Record}
use Rattle.aide_merge.specs.Bound.{Fits, FitsAfter, FitsAfterBoth, TakesWithin, OpensWithin}
use Rattle.aide_merge.specs.Bound.{three_lines}
use Rattle.aide_db.specs.Answer.{Stands}
use Rattle.aide_merge.specs.code.Merging.{StandsAt, limits_at}
use Rattle.aide_merge.specs.declared.merge.Merge.{Merge}
use Rattle.aide_merge.proofs.StandingLemmas.{stands_across}

-- a line of this length more was taken of a side
fits_taken : (side : Side) (d e : DeskView) (longest old_line new_line before : ℕ)
    → longest ≤ by_side old_line new_line side
    → list_of (other_side side) e ≡ list_of (other_side side) d
    → length (list_of side e) ≤ max (length (list_of side d)) longest
    → d.peak ≤ e.peak → e.peak ≤ peak_limit side d longest → Fits old_line new_line before d
    → Fits old_line new_line before e
fits_taken Old d e longest old_line new_line before short other own rises limit fits = search rules
fits_taken New d e longest old_line new_line before short other own rises limit fits = search rules

-- a side's list is the one before, or has a line within the limit
own_length : (side : Side) (d e : DeskView) (columns : List Column) (limit : ℕ) (answer : Result Step DbFault)
    → OwnAnswer side d e columns limit answer
    → length (list_of side e) ≤ max (length (list_of side d)) limit
own_length side d e columns limit (Ok Record) own = omega (arith, own.short)
own_length side d e columns limit _ own = let same : length (list_of side e)
    ≡ length (list_of side d) = ap length own.0 in omega arith

-- a call of a cursor keeps within the bound
pub fits_next : {R : Type 0} (to_come : R → Option (List ℕ)) (c : CursorView R) (d e : DeskView) (columns : List Column)
    (answer : Result Step DbFault)
    → list_of (other_side c.side) e ≡ list_of (other_side c.side) d → OwnAnswer c.side d e columns c.limits.line answer
    → d.peak ≤ e.peak → e.peak ≤ peak_limit c.side d c.limits.line
    → ((text : List ℕ) → Stands to_come c d text → e.peak ≤ peak_limit c.side d (longest_line c.limits text))
    → ((text : List ℕ) → Stands to_come c d text → length (list_of c.side e) ≤ max (length (list_of c.side d)) (longest_line c.limits text))
    → FitsAfter to_come c d e
fits_next to_come c d e columns answer other own rises below long length_of old_line new_line before within fits =
    search (rules, fits_taken, own_length)

-- a cursor that goes on standing for its texts takes no longer lines
pub within_after : {R : Type 0} (to_come : R → Option (List ℕ)) (c after : CursorView R) (d e : DeskView) (longest : ℕ)
    → after.limits ≡ c.limits
    → ((text : List ℕ) → Stands to_come c d text → Stands to_come after e text)
    → TakesWithin to_come c d longest → TakesWithin to_come after e longest
within_after to_come c after d e longest same keeps within = search rules

-- nor does a cursor whose side is as before
pub within_across : {R : Type 0} (to_come : R → Option (List ℕ)) (c : CursorView R) (side : Side) (d e : DeskView) (longest : ℕ)
    → c.side ≡ side → IsKept side d e
    → TakesWithin to_come c d longest → TakesWithin to_come c e longest
within_across to_come c side d e longest is kept =
    within_after to_come c c d e longest refl (λ text. stands_across to_come c side d e text is kept)

-- nor does a cursor that begins to read a side
pub within_started : {R : Type 0} (to_come : R → Option (List ℕ)) (limits : Limits) (bytes_of : Side → Option (List ℕ)) (side : Side)
    (c : CursorView R) (d : DeskView) (longest : ℕ) → c.limits ≡ limits
    → ((text : List ℕ) → bytes_of side ≡ Some text → Stands to_come c d text)
    → OpensWithin bytes_of limits side longest → TakesWithin to_come c d longest
within_started to_come limits bytes_of side c d longest same stands within = elim within [
  | inl short ↦ inl (subst (λ (l : Limits). l.line ≤ longest) (sym same) short)
  | inr gives ↦ inr (record {
    text = gives.text;
    stands = stands gives.text gives.gives;
    within = subst (λ (l : Limits). longest_line l gives.text ≤ longest) (sym same) gives.within;
  })
]

pub within_at : {R : Type 0} (to_come : R → Option (List ℕ)) (c : CursorView R) (d : DeskView) (old_line new_line : ℕ) (side : Side)
    → c.side ≡ side
    → TakesWithin to_come c d (by_side old_line new_line side)
    → TakesWithin to_come c d (by_side old_line new_line c.side)
within_at to_come c d old_line new_line side is within =
    subst (λ (s : Side). TakesWithin to_come c d (by_side old_line new_line s)) (sym is) within

-- a further step of a cursor
pub fits_on : {R : Type 0} (to_come : R → Option (List ℕ)) (c further : CursorView R) (d middle e : DeskView)
    → further.side ≡ c.side → further.limits ≡ c.limits
    → ((text : List ℕ) → Stands to_come c d text → Stands to_come further middle text)
    → FitsAfter to_come c d middle → FitsAfter to_come further middle e → FitsAfter to_come c d e
fits_on to_come c further d middle e side same keeps first second old_line new_line before within fits =
    search (rules, within_at, within_after)

-- a step of the old side's cursor, and then one of the new side's
pub fits_both : {R : Type 0} (to_come : R → Option (List ℕ)) (m : Merge R) (d middle e : DeskView)
    → m.old_cursor.side ≡ Old → m.new_cursor.side ≡ New → IsKept New d middle
    → FitsAfter to_come m.old_cursor d middle → FitsAfter to_come m.new_cursor middle e
    → FitsAfterBoth to_come m d e
fits_both to_come m d middle e is_old is_new kept first second old_line new_line before within_old within_new fits =
    search (rules, within_at, within_across)

-- a further step of a merge
pub fits_further : {R : Type 0} (to_come : R → Option (List ℕ)) (m further : Merge R) (d middle e : DeskView)
    → ((side : Side) → limits_at further side ≡ limits_at m side)
    → ((side : Side) (text : List ℕ) → StandsAt to_come m d side text → StandsAt to_come further middle side text)
    → FitsAfterBoth to_come m d middle → FitsAfterBoth to_come further middle e → FitsAfterBoth to_come m d e
fits_further to_come m further d middle e same keeps first second old_line new_line before within_old within_new fits =
    second old_line new_line before
    (within_after to_come m.old_cursor further.old_cursor d middle old_line (same Old) (keeps Old) within_old)
    (within_after to_come m.new_cursor further.new_cursor d middle new_line (same New) (keeps New) within_new)
    (first old_line new_line before within_old within_new fits)

-- a side was opened, which empties its list
pub fits_opened : (side : Side) (d e : DeskView) → list_of side e ≡ []
    → list_of (other_side side) e ≡ list_of (other_side side) d → e.peak ≡ d.peak
    → (old_line new_line before : ℕ) → Fits old_line new_line before d → Fits old_line new_line before e
fits_opened Old d e emptied other same old_line new_line before fits = search rules
fits_opened New d e emptied other same old_line new_line before fits = search rules

-- a desk whose lists are empty fits any bounds
pub fits_cleared : (d e : DeskView) → list_of Old e ≡ [] → list_of New e ≡ [] → e.peak ≡ d.peak
    → (old_line new_line : ℕ) → Fits old_line new_line d.peak e
fits_cleared d e no_old no_new same old_line new_line = search rules

-- of any sources no line is longer than the limit
pub fits_limit : (bytes_of : Side → Option (List ℕ)) (limits : Limits) (d e : DeskView)
    → ((old_line new_line : ℕ) → OpensWithin bytes_of limits Old old_line → OpensWithin bytes_of limits New new_line
    → Fits old_line new_line d.peak e)
    → (d.peak ≤ e.peak) × (e.peak ≤ max d.peak (3 * limits.line))
fits_limit bytes_of limits d e fits_for =
    let fits : Fits limits.line limits.line d.peak e = fits_for limits.line limits.line (inl (omega arith)) (inl (omega arith)) in
    (fits.peak, omega (arith, fits.bound))

-- of sides that tell their texts no line is longer than the longest of each
pub fits_within : (bytes_of : Side → Option (List ℕ)) (limits : Limits) (d e : DeskView)
    → ((old_line new_line : ℕ) → OpensWithin bytes_of limits Old old_line → OpensWithin bytes_of limits New new_line
    → Fits old_line new_line d.peak e)
    → (old new : List ℕ) → bytes_of Old ≡ Some old → bytes_of New ≡ Some new
    → e.peak ≤ max d.peak (three_lines (longest_line limits old) (longest_line limits new))
fits_within bytes_of limits d e fits_for old new told_old told_new =
    (fits_for (longest_line limits old) (longest_line limits new) (inr (record { text = old; gives = told_old; within = omega arith }))
    (inr (record { text = new; gives = told_new; within = omega arith }))).bound
