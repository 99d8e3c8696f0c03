-- The first rule of a list that names a path.
use Rattle.std.proofs.Common.{◌≡◌, ℕ, Bool, true, false, List, ◌∷◌}
use Rattle.std.specs.Prelude.{Some}
use Rattle.aide_patterns.specs.Line.{RuleText}
use Rattle.aide_patterns.specs.Tests.{line_of, names}

pub line_here : (rule : RuleText) (rules : List RuleText) (path : List ℕ) (is_program : Bool)
    → names path is_program rule ≡ true → line_of (rule ∷ rules) path is_program ≡ Some rule.line
line_here rule rules path is_program it_does = simp it_does

pub line_behind : (rule : RuleText) (rules : List RuleText) (path : List ℕ) (is_program : Bool)
    → names path is_program rule ≡ false → line_of (rule ∷ rules) path is_program ≡ line_of rules path is_program
line_behind rule rules path is_program it_does_not = simp it_does_not
