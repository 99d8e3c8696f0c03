-- The relations as tests that compute: whether a path matches a pattern, and which line names it.
use Rattle.std.specs.Prelude.{ℕ, ◌+◌, ◌==◌, ◌&&◌, ◌||◌, nat_le, not, Bool, true, false}
use Rattle.std.specs.Prelude.{if◌then◌else◌, List, [], ◌∷◌, Option, Some, None}
use Rattle.std.specs.List.{list_any}
use Rattle.aide_patterns.specs.Parts.{Part, one, many}
use Rattle.aide_patterns.specs.Bytes.{ByteTest, is_byte, any_byte, in_class, Range}
use Rattle.aide_patterns.specs.Component.{component_parts}
use Rattle.aide_patterns.specs.Path.{Pattern, begins_with, components, is_dotted, pattern_of}
use Rattle.aide_patterns.specs.Line.{RuleText}

-- a list passes a test, with all its items or without some at its beginning
abbrev pub some_rest : {X : Type 0} → (List X → Bool) → List X → Bool
some_rest test [] = test []
some_rest test (x ∷ xs) = test (x ∷ xs) || some_rest test xs

-- a list passes a test without at least one item at its beginning
abbrev pub later_rest : {X : Type 0} → (List X → Bool) → List X → Bool
later_rest test [] = false
later_rest test (x ∷ xs) = some_rest test xs

-- the items match the parts
abbrev pub matches : {T X : Type 0} → (T → X → Bool) → List (Part T) → List X → Bool
matches passes [] [] = true
matches passes [] (x ∷ xs) = false
matches passes (one t ∷ ps) [] = false
matches passes (one t ∷ ps) (x ∷ xs) = passes t x && matches passes ps xs
matches passes (many ∷ ps) xs = some_rest (matches passes ps) xs

-- the byte is in the range
abbrev pub is_in : ℕ → Range → Bool
is_in byte range = nat_le range.0 byte && nat_le byte range.1

-- the byte passes the test
abbrev pub passes_byte : ByteTest → ℕ → Bool
passes_byte (is_byte wanted) byte = byte == wanted
passes_byte any_byte byte = true
passes_byte (in_class negated ranges) byte =
    if negated then not (list_any (is_in byte) ranges) else list_any (is_in byte) ranges

-- a name matches the parts of a component
abbrev pub matches_parts : List (Part ByteTest) → List ℕ → Bool
matches_parts parts name = matches passes_byte parts name

-- a name matches a component, if wildcards may match a dot at its beginning
abbrev pub matches_name : (component name : List ℕ) → Bool
matches_name component name = matches_parts (component_parts component) name

-- a path matches a pattern, if wildcards may match a dot at the beginning of a name
abbrev pub matches_path : Pattern → List ℕ → Bool
matches_path pattern path = matches matches_name pattern (components path)

-- how many of these names begin with a dot
abbrev pub dots : List (List ℕ) → ℕ
dots [] = 0
dots (name ∷ more) = (if is_dotted name then 1 else 0) + dots more

-- A path matches the text of a pattern. A component that begins with a dot matches only names that begin with one. It
-- is therefore enough to compare how many of each there are.
abbrev pub matches_text : (pattern path : List ℕ) → Bool
matches_text pattern path = begins_with 47 path
    && (matches_path (pattern_of pattern) path
    && (dots (components pattern) == dots (components path)))

-- the rule names the path
abbrev pub names : List ℕ → Bool → RuleText → Bool
names path is_program rule = (not is_program || rule.programs) && matches_text rule.pattern path

-- the line of the first rule that names the path
abbrev pub line_of : List RuleText → List ℕ → Bool → Option ℕ
line_of [] path is_program = None
line_of (rule ∷ rules) path is_program =
    if names path is_program rule then Some rule.line else line_of rules path is_program
