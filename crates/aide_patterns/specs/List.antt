-- What a list means: the rules of its lines, or its first fault.
use Rattle.std.specs.Prelude.{◌≡◌, ◌≤◌, ◌<◌, ◌+◌, ◌⊎◌, ℕ, length, List, [], ◌∷◌, ◌++◌, Option, Some}
use Rattle.std.specs.Prelude.{None, Result, Ok, Err}
use Rattle.std.specs.List.{All, flat_map}
use Rattle.aide_patterns.specs.Line.{LineResult, RuleText, rule_of}
use Rattle.aide_patterns.specs.Pieces.{pieces}
use Rattle.aide_patterns.specs.declared.fault.ListFault.{ListFault}
use Rattle.aide_patterns.specs.declared.fault.ListFaultKind.{ListFaultKind}
use Rattle.aide_patterns.specs.declared.fault.ListFaultKind.TheVariants.{TooMany}

-- the greatest number of rules in a list
abbrev pub most_rules : ℕ
most_rules = 500

-- a line with its number
abbrev pub Line : Type 0
Line = ℕ × List ℕ

-- lines with their numbers, the first of which is given
abbrev pub numbered : ℕ → List (List ℕ) → List Line
numbered number [] = []
numbered number (text ∷ texts) = (number, text) ∷ numbered (number + 1) texts

-- the lines of a list, counted from 1
abbrev pub lines_of : List ℕ → List Line
lines_of text = numbered 1 (pieces 10 text)

-- the rule in the result of a line, if there is one
abbrev pub rule_read : LineResult → List RuleText
rule_read (Ok None) = []
rule_read (Ok (Some rule)) = rule ∷ []
rule_read (Err kind) = []

-- the fault in the result of a line, if there is one
abbrev pub fault_read : LineResult → Option ListFaultKind
fault_read (Ok rule) = None
fault_read (Err kind) = Some kind

-- the rule of a line, if it has one
abbrev pub rule_at : Line → List RuleText
rule_at line = rule_read (rule_of line.0 line.1)

-- the rules of lines, in their order
abbrev pub rules_of : List Line → List RuleText
rules_of lines = flat_map rule_at lines

-- the line has no fault of its own
abbrev pub IsSound : Line → Type 0
IsSound line = fault_read (rule_of line.0 line.1) ≡ None

-- The list has these rules: no line has a fault, these are the rules of all lines, and they are not too many.
pub record HasRules (text : List ℕ) (rules : List RuleText) : Type 0 where
  pub sound : All IsSound (lines_of text)
  pub all : rules ≡ rules_of (lines_of text)
  pub few : length rules ≤ most_rules

-- A line after these lines has this fault: a fault of its own, or one rule too many.
abbrev pub HasFault : (before : List Line) → Line → ListFaultKind → Type 0
HasFault before line kind = (fault_read (rule_of line.0 line.1) ≡ Some kind)
    ⊎ ((kind ≡ TooMany) × (most_rules < length (rules_of before ++ rule_at line)))

-- The first fault of the list: the line with its number has this fault, and the lines before that line have none.
pub record HasFirstFault (text : List ℕ) (fault : ListFault) : Type 0 where
  pub before : List Line
  pub line : List ℕ
  pub after : List Line
  pub parts : lines_of text ≡ before ++ (fault.line, line) ∷ after
  pub sound : All IsSound before
  pub few : length (rules_of before) ≤ most_rules
  pub why : HasFault before (fault.line, line) fault.kind

-- what reading a list gives: its rules, or its first fault
abbrev pub IsReading : List ℕ → Result (List RuleText) ListFault → Type 0
IsReading text (Ok rules) = HasRules text rules
IsReading text (Err fault) = HasFirstFault text fault
