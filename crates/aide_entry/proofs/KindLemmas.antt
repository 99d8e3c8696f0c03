-- The kind of a line that begins with a slash.
use Rattle.std.proofs.Common.{◌≡◌, ℕ, List, ◌∷◌, refl}
use Rattle.aide_fields.specs.Text.{fields, is_blank}
use Rattle.aide_entry.specs.Lines.{kind_of, kind_of_field}
use Rattle.aide_entry.specs.declared.line.LineKind.TheVariants.{Other}
use Rattle.aide_fields.proofs.SplitLemmas.{split_pieces}

pub slash_line : (line more : List ℕ) → line ≡ 47 ∷ more → kind_of line ≡ Other
unfolding kind_of fields kind_of_field
slash_line line more e = rw (e, (split_pieces is_blank more).2) refl
