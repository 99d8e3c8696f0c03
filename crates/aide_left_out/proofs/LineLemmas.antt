-- The line of a list that names a path.
use Rattle.std.proofs.lemmas.Grind.{common_steps}
use Rattle.std.proofs.Common.{◌≡◌, ◌∙◌, ◌≤◌, ℕ, Bool, true, false, refl, ap, subst, arith, List, [], ◌∷◌, ◌++◌, length, rules}
use Rattle.std.specs.Prelude.{nat_le, Option, Some, if◌then◌else◌, ◌||◌}
use Rattle.std.specs.List.{list_any}
use Rattle.std.proofs.lemmas.Bool.{leb-true, le-leb, or_parts, false_from_ne_true}
use Rattle.aide_patterns.proofs.DotLemmas.{line_is_found, list_meaning}
use Rattle.aide_patterns.proofs.Laws.{same_line}
use Rattle.aide_patterns.specs.Line.{RuleText}
use Rattle.aide_patterns.specs.Rules.{IsFirst, IsFound, Names}
use Rattle.aide_patterns.specs.Tests.{line_of, names}
use Rattle.aide_left_out.specs.LeftOut.{line_at, longest_path}
use Rattle.aide_left_out.proofs.BoolLemmas.{choose, chosen}

-- the test's answer is the first line that names the path
pub first_line : (rules : List RuleText) (path : List ℕ) (is_program : Bool) (line : ℕ)
    → line_of rules path is_program ≡ Some line → IsFirst rules path is_program line
first_line rules path is_program line e =
    subst (IsFound rules path is_program) e (line_is_found rules path is_program)

by_test : (b : Bool) (line : ℕ) (more : Option ℕ) → b ≡ true → (if b then Some line else more) ≡ Some line
by_test true line more e = refl
by_test false line more e = cc

past_test : (b : Bool) (line : ℕ) (more : Option ℕ) → b ≡ false → (if b then Some line else more) ≡ more
past_test true line more e = cc
past_test false line more e = refl

-- rules that do not name the path do not matter
past_others : (others rest : List RuleText) (path : List ℕ) (is_program : Bool)
    → list_any (names path is_program) others ≡ false → line_of (others ++ rest) path is_program ≡ line_of rest path is_program
past_others [] rest path is_program h = refl
past_others (rule ∷ others) rest path is_program h = search (rules, past_others others rest path is_program, past_test, or_parts)

or_nothing : (b : Bool) → (b || false) ≡ true → b ≡ true
or_nothing true h = refl
or_nothing false h = cc

-- and the first line that names the path is the test's answer
pub line_from : (rules : List RuleText) (path : List ℕ) (is_program : Bool) (line : ℕ)
    → IsFirst rules path is_program line → line_of rules path is_program ≡ Some line
line_from rules path is_program line h =
    let others : list_any (names path is_program) h.before ≡ false =
    false_from_ne_true (list_any (names path is_program) h.before) (λ e. h.others ((list_meaning h.before path is_program).0 e)) in
    ap (λ rs. line_of rs path is_program) h.parts
    ∙ (past_others h.before (h.rule ∷ h.after) path is_program others
    ∙ (by_test (names path is_program h.rule) h.rule.line (line_of h.after path is_program)
    (named_by h.rule path is_program h.names) ∙ ap Some h.number))
  where
    named_by : (rule : RuleText) (path : List ℕ) (is_program : Bool) → Names path is_program rule
        → names path is_program rule ≡ true
    named_by rule path is_program n = or_nothing (names path is_program rule)
        ((list_meaning (rule ∷ []) path is_program).1 (0, rule, (omega arith), refl, n))

pub at_means : (rules : List RuleText) (path : List ℕ) (is_program : Bool) (line : ℕ)
    → line_at rules path is_program ≡ Some line → (length path ≤ longest_path) × IsFirst rules path is_program line
at_means rules path is_program line e = grind (arith, common_steps, chosen, leb-true, first_line)

pub at_from : (rules : List RuleText) (path : List ℕ) (is_program : Bool) (line : ℕ) → length path ≤ longest_path
    → IsFirst rules path is_program line → line_at rules path is_program ≡ Some line
at_from rules path is_program line short h =
    choose (nat_le (length path) longest_path) (line_of rules path is_program) line
    (le-leb (length path) longest_path short) (line_from rules path is_program line h)

pub at_longer : (rules more : List RuleText) (path : List ℕ) (is_program : Bool) (line : ℕ)
    → line_at rules path is_program ≡ Some line → line_at (rules ++ more) path is_program ≡ Some line
at_longer rules more path is_program line e = grind (arith, common_steps, chosen, choose, same_line)
