-- What accounts for a change, with a trusted pair and a list of what is left out.
use Rattle.std.specs.Prelude.{ℕ, List, Option, Some, None, option_map}
use Rattle.aide_agreement.specs.declared.account.SameAs.{SameAs}
use Rattle.aide_attr.specs.declared.attr.Attr.TheVariants.{Caps}
use Rattle.aide_db.specs.Giving.{columns_of_text}
use Rattle.aide_entry.specs.Columns.{has_column}
use Rattle.aide_entry.specs.declared.column.Column.{Column}
use Rattle.aide_left_out.specs.LeftOut.{left_out}
use Rattle.aide_left_out.specs.declared.change.Measures.{Measures}
use Rattle.aide_line_text.specs.Account.{account_as}
use Rattle.aide_line_text.specs.declared.account.Account.{Account}
use Rattle.aide_line_text.specs.declared.account.Account.TheVariants.{LeftOut}
use Rattle.aide_patterns.specs.Line.{RuleText}
use Rattle.aide_merge.specs.Said.{PathChange}

-- a list of what is left out: its rules, and the SHA-256 of its text
pub record ListRead : Type 0 where
  pub rules : List RuleText
  pub digest : List ℕ

-- which of two databases have the column of capabilities, by the columns of both
abbrev pub measures_by : (old new : List Column) → Measures
measures_by old new = record { of_old = has_column Caps old; of_new = has_column Caps new }

-- which of two databases have the column of capabilities, by their texts
abbrev pub measures_between : (old new : List ℕ) → Measures
measures_between old new = measures_by (columns_of_text old) (columns_of_text new)

-- the line of a list that leaves a change out, if one does
abbrev pub Leaves : Type 0
Leaves = PathChange → Option ℕ

-- what the rules of a list leave out
abbrev pub left_by : ListRead → Measures → Leaves
left_by list measures change = left_out list.rules measures change.0 change.1

-- what a list leaves out between two texts
abbrev pub leaves_between : ListRead → (old new : List ℕ) → Leaves
leaves_between list old new = left_by list (measures_between old new)

-- what accounts for a change: an entry if one does, otherwise a line of the list
abbrev pub account_by : Option SameAs → (line : Option ℕ) → Option Account
account_by (Some same) line = account_as (Some same)
account_by None line = option_map LeftOut line
