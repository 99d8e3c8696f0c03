-- What blocks see of marked places.
use Rattle.std.specs.Prelude.{ℕ, Bool, true, false, List, [], ◌∷◌, Option, Some, None}
use Rattle.std.specs.Prelude.{if◌then◌else◌}
use Rattle.aide_conf.specs.declared.fault.ConfText.{ConfText}
use Rattle.aide_conf.specs.declared.fault.ConfText.TheVariants.{Before, File, After}
use Rattle.aide_conf.specs.Directive.{directive_of, role_of, directive_chooses}
use Rattle.aide_conf.specs.Blocks.{BlockRole, Single, Seen}
use Rattle.aide_conf.specs.Marks.{Marked}

-- both are the same one of the three texts
abbrev pub is_text : ConfText → ConfText → Bool
is_text Before Before = true
is_text File File = true
is_text After After = true
is_text _ _ = false

-- what a line does to the blocks of its text; the end of a text does nothing to them
abbrev pub role_at : Option (List ℕ) → BlockRole
role_at None = Single
role_at (Some line) = role_of (directive_of line)

-- what blocks see of a place
abbrev pub seen : Marked → Seen
seen x = record { role = role_at x.place.line; used = x.used; first = x.first }

-- what blocks see of these places, counting only those in one text
abbrev pub seen_in : ConfText → List Marked → List Seen
seen_in text [] = []
seen_in text (x ∷ xs) =
    if is_text text x.place.text then seen x ∷ seen_in text xs else seen_in text xs

-- whether the line chooses its first part, by a test of which names are defined; the end of a text chooses none
abbrev pub chooses_at : (List ℕ → Bool) → Option (List ℕ) → Bool
chooses_at defined None = false
chooses_at defined (Some line) = directive_chooses defined (directive_of line)
