use Rattle.std.proofs.Common.{rules, sym, ◌∙◌, ◌≡◌, ℕ, Bool, true, false, refl}
use Rattle.std.specs.Prelude.{if◌then◌else◌}
use Rattle.aide_attr.specs.Summary.{slot_letter}
use Rattle.aide_attr.proofs.summary_string.slot_letter.Goals as goal

-- this case applies
here : (p : Bool) (a z : ℕ) → p ≡ true → (if p then a else z) ≡ a
here p a z is = rw is refl

-- it does not, so a later one gives the letter
later : (p : Bool) (a z letter : ℕ) → p ≡ false → z ≡ letter → (if p then a else z) ≡ letter
later p a z letter not rest = rw not rest

pub returns-then-any_changed : goal.returns-then-any_changed
unfolding slot_letter
returns-then-any_changed c =
    sym (here _ _ _ (sym c.any_changed.ensures ∙ c.if-any_changed.true))

pub returns-then-any_added : goal.returns-then-any_added
unfolding slot_letter
returns-then-any_added c =
    sym (later _ _ _ _ (sym c.any_changed.ensures ∙ c.if-any_changed.false) (here _ _ _ (sym c.any_added.ensures ∙ c.if-any_added.true)))

pub returns-then-any_removed : goal.returns-then-any_removed
unfolding slot_letter
returns-then-any_removed c = search (rules, later, here)

pub returns-then-any_affected : goal.returns-then-any_affected
unfolding slot_letter
returns-then-any_affected c = search (rules, later, here)

pub returns-then-any_same : goal.returns-then-any_same
unfolding slot_letter
returns-then-any_same c = search (rules, later, here)

pub returns-else-any_same : goal.returns-else-any_same
unfolding slot_letter
returns-else-any_same c = search (rules, later)
