use Rattle.std.proofs.Common.{rules}
use Rattle.std.proofs.lemmas.Bool.{and_left, and_right}
use Rattle.aide_patterns.proofs.FrontLemmas.{no_front}
use Rattle.aide_patterns.proofs.exclusions.names.Goals as goal

pub returns-then-not-begins : goal.returns-then-not-begins
returns-then-not-begins c = search (rules, no_front, and_right, and_left)
