use Rattle.std.proofs.Common.{◌≡◌, sym, true, false, List, ℕ, rules}
use Rattle.std.specs.Prelude.{codes, nat_eq}
use Rattle.std.specs.List.{starts_with}
use Rattle.std.specs.Str.{bytes_eq}
use Rattle.aide_entry.specs.Lines.{kind_of_field}
use Rattle.aide_entry.specs.declared.line.LineKind.TheVariants.{Begin}
use Rattle.aide_entry.proofs.line.kind_of_field.Goals as goal

-- a field with the word of a first line, and no comment, makes its line a first line
begins : (field : List ℕ) → starts_with nat_eq field (codes "#") ≡ false → bytes_eq field (codes "@@begin_db") ≡ true
    → Begin ≡ kind_of_field field
unfolding kind_of_field
begins field plain is = sym (rw (plain, is))

pub returns-then-eq : goal.returns-then-eq
returns-then-eq c = search (rules, begins)
