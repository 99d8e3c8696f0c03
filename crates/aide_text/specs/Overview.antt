-- The beginning of a report: whether the databases differ, and the numbers of entries.
use Rattle.std.specs.Prelude.{ℕ, ◌==◌, ◌||◌, not, Bool, if◌then◌else◌, List, [], ◌++◌, decimal}
use Rattle.std.specs.Prelude.{codes}
use Rattle.aide_attr.specs.declared.level.Level.{Level}
use Rattle.aide_attr.specs.declared.level.Level.TheVariants.{Summary}
use Rattle.aide_attr.specs.Level.{reaches}
use Rattle.aide_text.specs.Layout.{ended}
use Rattle.aide_text.specs.declared.counts.Counts.{Counts}

-- whether one of the numbers of added, removed and changed entries is not 0
abbrev pub databases_differ : (added removed changed : ℕ) → Bool
databases_differ added removed changed =
    not (added == 0) || (not (removed == 0) || not (changed == 0))

-- whether these counts have an added, removed or changed entry
abbrev pub differs : Counts → Bool
differs counts = databases_differ counts.added counts.removed counts.changed

-- a part of the report if `wanted` is true, otherwise the empty text
abbrev pub when : Bool → List ℕ → List ℕ
when wanted text = if wanted then text else []

-- the first line of the report
unfoldable pub head_of : Bool → List ℕ
head_of differ = if differ
    then codes "AIDE found differences between the two databases.\n"
    else codes "AIDE found NO differences between the two databases.\n"

-- an empty line, and the title of the summary
unfoldable pub summary_title : List ℕ
summary_title = codes "\nSummary:\n"

-- a line with a label and a number in decimal
unfoldable pub number_line : List ℕ → ℕ → List ℕ
number_line label n = label ++ ended (decimal n)

-- the lines of the first two numbers
unfoldable pub first_numbers : (total added : ℕ) → List ℕ
first_numbers total added =
    number_line (codes "  Total number of entries: ") total
    ++ number_line (codes "  Added entries:           ") added

-- the lines of the last two numbers
unfoldable pub last_numbers : (removed changed : ℕ) → List ℕ
last_numbers removed changed =
    number_line (codes "  Removed entries:         ") removed
    ++ number_line (codes "  Changed entries:         ") changed

-- the summary: the numbers of entries
unfoldable pub summary_of : (total added removed changed : ℕ) → List ℕ
summary_of total added removed changed = summary_title
    ++ (first_numbers total added ++ last_numbers removed changed)

-- the head, and the summary if the level is at least `Summary`
unfoldable pub overview_of : Level → (total added removed changed : ℕ) → List ℕ
overview_of level total added removed changed =
    head_of (databases_differ added removed changed)
    ++ when (reaches level Summary) (summary_of total added removed changed)

-- the head and the summary, with the numbers of these counts
abbrev pub overview_by : Level → Counts → List ℕ
overview_by level counts = overview_of level counts.total counts.added counts.removed counts.changed
