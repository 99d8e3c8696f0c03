-- The lines on standard error.
use Rattle.std.specs.Prelude.{◌==◌, ◌+◌, ℕ, List, [], ◌∷◌, ◌++◌, codes, decimal, if◌then◌else◌}
use Rattle.std.specs.Prelude.{Option, Some, None, zero, suc}
use Rattle.std.specs.Int.{bit_at}
use Rattle.std.specs.List.{flat_map}
use Rattle.aide_text.specs.Printed.{printed}
use Rattle.aide_merge.specs.declared.outcome.Outcome.{Outcome}
use Rattle.aide_merge.specs.declared.run_fault.RunFault.{RunFault}
use Rattle.aide_merge.specs.declared.run_fault.RunFault.TheVariants.{Open, Database, Changed}
use Rattle.aide_merge.specs.declared.run_fault.RunFault.TheVariants.{Write}
use Rattle.aide_db.specs.Side.{by_side}
use Rattle.aide_db.specs.declared.side.Side.{Side}
use Rattle.aide_db.specs.declared.side.Side.TheVariants.{Old, New}
use Rattle.aide_entry.specs.Fault.{column_of_kind, words_of_kind}
use Rattle.aide_db.specs.declared.fault.DbFault.{DbFault}
use Rattle.aide_entry.specs.declared.fault_kind.DbFaultKind.{DbFaultKind}
use Rattle.aide_entry.specs.declared.fault_kind.DbFaultKind.TheVariants as db
use Rattle.aide_conf.specs.Fault.{kind_words, text_word}
use Rattle.aide_conf.specs.declared.fault.ConfFault.{ConfFault}
use Rattle.aide_site.specs.declared.whose.Whose.{Whose}
use Rattle.aide_site.specs.declared.whose.Whose.TheVariants.{Compared, Trusted}

-- the arguments are not those of the command
unfoldable pub usage_line : List ℕ
usage_line = codes "aide: usage: aide (-E | -D) -c FILE [-B TEXT] [-A TEXT]\n"

-- how to call the program that writes lines of JSON
unfoldable pub lines_usage_line : List ℕ
lines_usage_line =
    codes "aide: usage: aide_lines (-E [--trusted-old FILE --trusted-new FILE] [--without TEXT]"
    ++ codes " | -D) -c FILE [-B TEXT] [-A TEXT]\n"

-- out of memory
unfoldable pub memory_line : List ℕ
memory_line = codes "aide: out of memory\n"

-- the configuration is too long
unfoldable pub too_large_line : List ℕ
too_large_line = codes "aide: the configuration is longer than 4194304 bytes\n"

-- the report was not written
unfoldable pub write_line : List ℕ
write_line = codes "aide: cannot write the report\n"

-- the configuration at a path was not opened or not read
unfoldable pub unread_line : List ℕ → List ℕ
unread_line path = codes "aide: cannot read the configuration " ++ (printed path ++ codes "\n")

-- `aide: TEXT:LINE: WORDS`
unfoldable pub conf_line : ConfFault → List ℕ
conf_line fault =
    codes "aide: " ++ (text_word fault.text ++ (codes ":" ++ (decimal fault.line ++ (codes ": "
    ++ (kind_words fault.kind ++ codes "\n")))))

-- the word for a side of a pair
abbrev pub side_word : Whose → Side → List ℕ
side_word Compared Old = codes "old"
side_word Compared New = codes "new"
side_word Trusted Old = codes "trusted old"
side_word Trusted New = codes "trusted new"

-- the number of a column after words that end in `column`, or nothing
unfoldable pub number_if_any : Option ℕ → List ℕ
number_if_any None = []
number_if_any (Some column) = codes " " ++ decimal column

-- `aide: SIDE database:LINE: WORDS`, with the number of the column that the fault is about, if any
unfoldable pub database_line : Whose → DbFault → List ℕ
database_line whose fault =
    codes "aide: " ++ (side_word whose fault.side ++ (codes " database:" ++ (decimal fault.line
    ++ (codes ": " ++ (words_of_kind fault.kind ++ (number_if_any (column_of_kind fault.kind)
    ++ codes "\n"))))))

-- the database of a side at a path was not opened
unfoldable pub open_line : Whose → Side → List ℕ → List ℕ
open_line whose side path =
    codes "aide: cannot open the " ++ (side_word whose side ++ (codes " database "
    ++ (printed path ++ codes "\n")))

-- the database of a side changed while it was read
unfoldable pub changed_line : Whose → Side → List ℕ
changed_line whose side =
    codes "aide: the " ++ (side_word whose side ++ codes " database changed while it was read\n")

-- `aide: SIDE database: column N skipped`
unfoldable pub skipped_line : Side → ℕ → List ℕ
skipped_line side column =
    codes "aide: " ++ (side_word Compared side ++ (codes " database: column " ++ (decimal column
    ++ codes " skipped\n")))

-- the line for the column at an index, if the set of skipped columns has this column
unfoldable pub line_if_skipped : Side → ℕ → ℕ → List ℕ
line_if_skipped side columns index =
    if bit_at columns index == 1 then skipped_line side (index + 1) else []

-- the numbers below n, in ascending order
unfoldable pub below : ℕ → List ℕ
below zero = []
below (suc n) = below n ++ n ∷ []

-- The lines of the skipped columns, in ascending order. Bit c - 1 means column c; there are at most
-- 64.
unfoldable pub skipped_lines : Side → ℕ → List ℕ
skipped_lines side columns = flat_map (line_if_skipped side columns) (below 64)

-- the lines after a good run, those of the old side first
abbrev pub outcome_lines : Outcome → List ℕ
outcome_lines o = skipped_lines Old o.skipped_old ++ skipped_lines New o.skipped_new

-- the line of a database's fault that ended a run
abbrev pub kind_line : Whose → DbFault → DbFaultKind → List ℕ
kind_line whose fault db.Memory = memory_line
kind_line whose fault _ = database_line whose fault

-- the line for the fault that ended a run over a pair of databases at these paths
abbrev pub run_fault_line : Whose → (old_path new_path : List ℕ) → RunFault → List ℕ
run_fault_line whose old_path new_path (Open side) =
    open_line whose side (by_side old_path new_path side)
run_fault_line whose old_path new_path (Database fault) = kind_line whose fault fault.kind
run_fault_line whose old_path new_path (Changed side) = changed_line whose side
run_fault_line whose old_path new_path (Write written) = write_line
