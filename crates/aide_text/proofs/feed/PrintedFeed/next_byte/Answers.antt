use Rattle.std.proofs.Common.{rules, ◌≡◌, ℕ, List, [], ◌∷◌, ◌++◌, drop, true}
use Rattle.std.proofs.lemmas.List.{drop_all}
use Rattle.aide_text.specs.Printed.{printed, is_escaped, octal_escape}
use Rattle.aide_text.proofs.feed.PrintedFeed.next_byte.Goals as goal

-- where no escape is left, the next byte to be escaped begins another one
escaped : (c : ℕ) (left escape before after : List ℕ) → left ≡ [] → before ≡ c ∷ after → is_escaped c ≡ true
    → escape ≡ octal_escape c → left ++ printed before ≡ 92 ∷ (drop 1 escape ++ printed after)
escaped c left escape before after none first is is_escape = search rules

pub returns-then-needs_escape : goal.returns-then-needs_escape
returns-then-needs_escape g c = search (rules, escaped, drop_all)
