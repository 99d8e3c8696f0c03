-- Worked examples of what a list leaves out, which tools/headline prints under the definitions.
use Rattle.std.proofs.Common.{◌≡◌, ℕ, Bool, true, false, List, [], ◌∷◌, Some, None, Ok, refl, inr}
use Rattle.std.specs.Prelude.{codes}
use Rattle.aide_attr.specs.Attr.{attr_of_column, row, row_of}
use Rattle.aide_attr.specs.declared.attr.Attr.TheVariants.{Caps, Sha256, Uid}
use Rattle.aide_entry.specs.Columns.{has_column}
use Rattle.aide_entry.specs.Fields.{column_named, columns_of}
use Rattle.aide_fields.specs.Text.{fields}
use Rattle.aide_left_out.specs.LeftOut.{left_out}
use Rattle.aide_left_out.specs.Meaning.{GivesRight, IsHarmless, IsLeftOut, KeepsWriters, by_user_id}
use Rattle.aide_left_out.specs.Rights.{has_bit, is_of_program}
use Rattle.aide_left_out.specs.Settings.{is_setting}
use Rattle.aide_left_out.specs.declared.change.Measures.{Measures}
use Rattle.aide_left_out.proofs.Laws.{left_out_from, left_out_means}
use Rattle.aide_left_out.proofs.LineLemmas.{first_line}
use Rattle.aide_left_out.proofs.RightLemmas.{harmless_from, harmless_means}
use Rattle.aide_left_out.proofs.WriterLemmas.{writers_from, writers_mean}
use Rattle.aide_patterns.specs.Faults.{pattern_fault}
use Rattle.aide_patterns.specs.Line.{RuleText, rule_of}
use Rattle.aide_patterns.specs.List.{lines_of, rules_of}
use Rattle.aide_patterns.specs.Path.{MatchesName, MatchesPath, pattern_of}
use Rattle.aide_patterns.specs.Rules.{IsFirst, Names}
use Rattle.aide_patterns.specs.declared.fault.PatternFault.TheVariants.{DoubleStar, NoPath}
use Rattle.aide_patterns.proofs.DotLemmas.{text_meaning}
use Rattle.aide_patterns.proofs.MeaningLemmas.{parts_sound}
use Rattle.aide_line_laws.proofs.Examples.{apart, directory, file, octal, without}

-- ---- the lists of the examples

-- a line of a list: its number, its pattern, and whether it names programs too
abbrev pub rule : (line : ℕ) → (pattern : List ℕ) → (programs : Bool) → RuleText
rule line pattern programs = record { line = line; pattern = pattern; programs = programs }

-- both databases have the column of capabilities
abbrev pub measured : Measures
measured = record { of_old = true; of_new = true }

-- ---- which changes a line leaves out

pub IsLeftOut_example :
    IsLeftOut (rule 3 (codes "/var/log/*") false ∷ []) measured (codes "/var/log/x") (None, Some (file 640 1 Sha256 7)) 3
unfolding left_out row_of row
IsLeftOut_example =
    left_out_means (rule 3 (codes "/var/log/*") false ∷ []) measured (codes "/var/log/x") (None, Some (file 640 1 Sha256 7)) 3 refl

unlike : (rules : List RuleText) (measures : Measures) (path : List ℕ) (old new : _) → left_out rules measures path (old, new) ≡ None
    → ¬ (IsLeftOut rules measures path (old, new) 3)
unlike rules measures path old new e h = let f = left_out_from rules measures path (old, new) 3 h in let g = e in cc

pub IsLeftOut_example_user_id :
    ¬ (IsLeftOut (rule 3 (codes "/var/log/*") true ∷ []) measured (codes "/var/log/x") (None, Some (file 4755 1 Sha256 7)) 3)
unfolding left_out row_of row
IsLeftOut_example_user_id =
    unlike (rule 3 (codes "/var/log/*") true ∷ []) measured (codes "/var/log/x") None (Some (file 4755 1 Sha256 7)) refl

pub IsHarmless_example : IsHarmless true (file 755 1 Sha256 7) × ¬ (IsHarmless false (file 755 1 Sha256 7))
unfolding row_of row
IsHarmless_example =
    (harmless_means true (file 755 1 Sha256 7) refl, apart false (harmless_from false (file 755 1 Sha256 7)) refl)

pub IsHarmless_example_user_id : ¬ (IsHarmless true (file 4755 1 Sha256 7))
unfolding row_of row
IsHarmless_example_user_id = apart false (harmless_from true (file 4755 1 Sha256 7)) refl

pub KeepsWriters_example : KeepsWriters None (directory 755 60 2) × ¬ (KeepsWriters None (directory 1777 60 2))
unfolding row_of row
KeepsWriters_example =
    (writers_mean None (directory 755 60 2) refl refl, λ h. let e = writers_from None (directory 1777 60 2) (λ is. h) in cc)

pub KeepsWriters_example_owner : ¬ (KeepsWriters None (without Uid (directory 755 60 2)))
unfolding row_of row
KeepsWriters_example_owner h = let e = h.owned in cc

pub is_setting_example : (is_setting (codes "/etc/aide-compare/without") ≡ true) × (is_setting (codes "/etc/aide-compared") ≡ false)
is_setting_example = (refl, refl)

pub is_of_program_example : (is_of_program (file 755 1 Sha256 7) ≡ true) × (is_of_program (file 644 1 Sha256 7) ≡ false)
unfolding row_of row
is_of_program_example = (refl, refl)

pub has_bit_example : (has_bit (octal 4755) 11 ≡ true) × (has_bit (octal 755) 11 ≡ false)
has_bit_example = (refl, refl)

pub GivesRight_example : GivesRight measured (codes "/x") (None, Some (file 4755 1 Sha256 7))
unfolding row_of row
GivesRight_example = by_user_id (file 4755 1 Sha256 7) (octal 4755) (inr refl) refl refl

pub has_column_example : has_column Caps (columns_of (codes "@@db_spec name capabilities")) ≡ true
unfolding fields column_named attr_of_column row_of row
has_column_example = refl

-- ---- which paths a line names

pub IsFirst_example : IsFirst (rule 3 (codes "/a") false ∷ rule 4 (codes "/*") false ∷ []) (codes "/a") false 3
IsFirst_example = first_line (rule 3 (codes "/a") false ∷ rule 4 (codes "/*") false ∷ []) (codes "/a") false 3 refl

pub Names_example : ¬ (Names (codes "/a") true (rule 3 (codes "/a") false))
Names_example h = let e = h.programs refl in cc

pub MatchesPath_example : MatchesPath (pattern_of (codes "/a/*/x")) (codes "/a/b/x")
    × ¬ (MatchesPath (pattern_of (codes "/a/*")) (codes "/a/b/x"))
MatchesPath_example = (
  (text_meaning (codes "/a/*/x") (codes "/a/b/x")).0 refl,
  apart false (text_meaning (codes "/a/*") (codes "/a/b/x")).1 refl,
)

pub pattern_of_example : MatchesPath (pattern_of (codes "/var/**")) (codes "/var/a/b")
    × ¬ (MatchesPath (pattern_of (codes "/var/**")) (codes "/var"))
pattern_of_example = (
  (text_meaning (codes "/var/**") (codes "/var/a/b")).0 refl,
  apart false (text_meaning (codes "/var/**") (codes "/var")).1 refl,
)

pub pattern_of_example_dot : ¬ (MatchesPath (pattern_of (codes "/var/**")) (codes "/var/.a/b"))
pattern_of_example_dot = apart false (text_meaning (codes "/var/**") (codes "/var/.a/b")).1 refl

pub MatchesName_example : MatchesName (codes "*.log") (codes "a.log") × ¬ (MatchesName (codes "*") (codes ".x"))
MatchesName_example = (
  record { matches = parts_sound _ (codes "a.log") refl; dot = λ e. cc },
  λ h. let e = h.dot refl in cc,
)

pub pattern_of_example_class : MatchesPath (pattern_of (codes "/t[0-9]")) (codes "/t1")
    × ¬ (MatchesPath (pattern_of (codes "/t[0-9]")) (codes "/tS"))
pattern_of_example_class = (
  (text_meaning (codes "/t[0-9]") (codes "/t1")).0 refl,
  apart false (text_meaning (codes "/t[0-9]") (codes "/tS")).1 refl,
)

-- ---- what a text says as a list

pub rules_of_example : rules_of (lines_of (codes "# x\n/a\n")) ≡ rule 2 (codes "/a") false ∷ []
rules_of_example = refl

pub rule_of_example : rule_of 3 (codes "programs(cron) /a") ≡ Ok (Some (rule 3 (codes "/a") true))
rule_of_example = refl

pub pattern_fault_example : (pattern_fault (codes "a/b") ≡ Some NoPath) × (pattern_fault (codes "/a**") ≡ Some DoubleStar)
pattern_fault_example = (refl, refl)
