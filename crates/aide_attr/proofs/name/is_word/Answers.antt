use Rattle.std.proofs.Common.{rules, ◌≡◌, Bool, true, refl}
use Rattle.std.specs.Prelude.{◌&&◌}
use Rattle.std.proofs.lemmas.Bool.{le-leb}
use Rattle.aide_attr.specs.Name.{is_word}
use Rattle.aide_attr.proofs.name.is_word.Goals as goal

-- where the first two tests hold, the third decides
third : (p q r : Bool) → p ≡ true → q ≡ true → r ≡ (p && q && r)
third p q r is_p is_q = rw (is_p, is_q) refl

pub returns-then-name-le-LONGEST_NAME : goal.returns-then-name-le-LONGEST_NAME
unfolding is_word
returns-then-name-le-LONGEST_NAME c = search (rules, third, le-leb)
