-- The list of what is left out, which the arguments give.
use Rattle.std.specs.Prelude.{◌≡◌, ℕ, List, ◌++◌, codes, decimal}
use Rattle.aide_patterns.specs.Line.{RuleText}
use Rattle.aide_patterns.specs.List.{HasRules}
use Rattle.aide_patterns.specs.declared.fault.ListFault.{ListFault}
use Rattle.aide_patterns.specs.declared.fault.ListFaultKind.{ListFaultKind}
use Rattle.aide_patterns.specs.declared.fault.ListFaultKind.TheVariants.{InPattern, BadReason}
use Rattle.aide_patterns.specs.declared.fault.ListFaultKind.TheVariants.{TooMany, Memory}
use Rattle.aide_patterns.specs.declared.fault.PatternFault.{PatternFault}
use Rattle.aide_patterns.specs.declared.fault.PatternFault.TheVariants.{NoPath, DoubleStar}
use Rattle.aide_patterns.specs.declared.fault.PatternFault.TheVariants.{OpenEscape, OpenClass}
use Rattle.aide_patterns.specs.declared.fault.PatternFault.TheVariants.{BadRange}
use Rattle.aide_line_run.specs.Listed.{ListRead}
use Rattle.sha2.specs.Sha256.{sha256}

-- ---- its faults

-- the words for what a text lacks that is no pattern
abbrev pub pattern_words : PatternFault → List ℕ
pattern_words NoPath = codes "a path begins with /"
pattern_words DoubleStar = codes "** is a component of its own"
pattern_words OpenEscape = codes "a backslash is the last byte of a component"
pattern_words OpenClass = codes "a class has no end"
pattern_words BadRange = codes "a range ends before it begins"

-- the words for the fault of a list
abbrev pub list_words : ListFaultKind → List ℕ
list_words (InPattern fault) = pattern_words fault
list_words BadReason = codes "no reason for programs"
list_words TooMany = codes "too many rules"
list_words Memory = codes "out of memory"

-- `aide: list:LINE: WORDS`
unfoldable pub list_line : ListFault → List ℕ
list_line fault =
    codes "aide: list:" ++ (decimal fault.line ++ (codes ": "
    ++ (list_words fault.kind ++ codes "\n")))

-- ---- what is read of it

-- what is read of a text that has these rules: the rules, and the SHA-256 (FIPS 180-4) of the text
abbrev pub list_of : List ℕ → List RuleText → ListRead
list_of text rules = record { rules = rules; digest = sha256 text }

-- The list was read from this text: its rules are those of the text, and its digest is the SHA-256
-- of the text.
pub record IsListOf (text : List ℕ) (list : ListRead) : Type 0 where
  pub rules : HasRules text list.rules
  pub digest : list.digest ≡ sha256 text

-- the text is a list without a fault
abbrev pub IsList : List ℕ → Type 0
IsList text = (rules : List RuleText) × HasRules text rules
