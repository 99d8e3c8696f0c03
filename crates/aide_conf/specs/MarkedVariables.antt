-- The variables after some places.
use Rattle.std.specs.Prelude.{ℕ, Bool, not, ◌&&◌, nat_le, List, [], length, Option, Some, None}
use Rattle.std.specs.Prelude.{is_some, reverse, unwrap_or, if◌then◌else◌}
use Rattle.std.specs.List.{filter}
use Rattle.aide_conf.specs.Effect.{same, Effect, DefinesVariable, DropsVariable}
use Rattle.aide_conf.specs.Directive.{directive_of, directive_text}
use Rattle.aide_conf.specs.Limits.{most_variables}
use Rattle.aide_conf.specs.Marks.{Marked, says, last_given, names_given}

-- whether a line gives a variable a value, removes the variable, or does neither
abbrev pub variable_by : List ℕ → Effect → Option (Option (List ℕ))
variable_by n (DefinesVariable m v) = if same n m then Some (Some v) else None
variable_by n (DropsVariable m) = if same n m then Some None else None
variable_by _ _ = None

-- what a place gives to a variable, by what it says
abbrev pub variable_in : List ℕ → Marked → Option (Option (List ℕ))
variable_in n x = variable_by n (says x)

-- The value of a variable after these places, if it is defined. It is that of the last line that sets the variable,
-- unless a later line removes the variable.
abbrev pub variable : List Marked → List ℕ → Option (List ℕ)
variable xs n = unwrap_or (last_given (variable_in n) xs) None

-- a variable has a value after these places
abbrev pub is_defined : List Marked → List ℕ → Bool
is_defined xs n = is_some (variable xs n)

-- the text that replaces a variable, which is empty if the variable is not defined
abbrev pub value : List Marked → List ℕ → List ℕ
value xs n = unwrap_or (variable xs n) []

-- the name of the variable that a line sets
abbrev pub variable_name_of : Effect → Option (List ℕ)
variable_name_of (DefinesVariable n v) = Some n
variable_name_of _ = None

-- the names of the variables that these places set, each once
unfoldable pub variable_names : List Marked → List (List ℕ)
variable_names xs = names_given variable_name_of (reverse xs)

-- the names that are defined after these places, each once
unfoldable pub defined_names : List Marked → List (List ℕ)
defined_names xs = filter (is_defined xs) (variable_names xs)

-- whether this would be the 1,025th variable
unfoldable pub is_one_variable_more : List Marked → List ℕ → Bool
is_one_variable_more xs n =
    not (is_defined xs n) && nat_le most_variables (length (defined_names xs))

-- the bytes of a line that are expanded; the end of a text has none
abbrev pub text_to_expand : Option (List ℕ) → List ℕ
text_to_expand None = []
text_to_expand (Some line) = directive_text line (directive_of line)
