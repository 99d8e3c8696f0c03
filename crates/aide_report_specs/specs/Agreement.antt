-- How a report begins. The numbers of its outcome determine its beginning, even if the sources show no bytes.
use Rattle.std.specs.Prelude.{◌≡◌, ℕ, ◌+◌, ◌&&◌, not, Bool, false, if◌then◌else◌, Option, List, []}
use Rattle.std.specs.Prelude.{◌++◌}
use Rattle.std.specs.Io.KnownBytes.{Appends}
use Rattle.aide_attr.specs.declared.level.Level.TheVariants.{DatabaseAttributes}
use Rattle.aide_conf.specs.declared.options.Options.{Options}
use Rattle.aide_db.specs.declared.side.Side.{Side}
use Rattle.aide_merge.specs.Openings.{OpensExactly}
use Rattle.aide_report_specs.specs.Report.{is_silent, section_count}
use Rattle.aide_text.specs.Overview.{overview_of, databases_differ}
use Rattle.aide_attr.specs.Level.{reaches}
use Rattle.aide_text.specs.declared.counts.Counts.{Counts}
use Rattle.aide_merge.specs.declared.outcome.Outcome.{Outcome}

-- the head and the summary; a silent report contains neither
abbrev pub beginning_of : Options → (total added removed changed : ℕ) → List ℕ
beginning_of options total added removed changed =
    if is_silent options (databases_differ added removed changed) then []
    else overview_of options.level total added removed changed

-- whether anything follows this beginning: only if the report is not silent, and its level reaches the databases
abbrev pub goes_on : Options → (added removed changed : ℕ) → Bool
goes_on options added removed changed =
    not (is_silent options (databases_differ added removed changed))
    && reaches options.level DatabaseAttributes

-- the beginning of a report with these counts
abbrev pub beginning_by : Options → Counts → List ℕ
beginning_by options counts =
    beginning_of options counts.total counts.added counts.removed counts.changed

-- whether anything follows the beginning of a report with these counts
abbrev pub goes_on_by : Options → Counts → Bool
goes_on_by options counts = goes_on options counts.added counts.removed counts.changed

-- the text has been written, and other bytes follow only if `wants_more` is true
pub record BeginsWith (text : List ℕ) (wants_more : Bool) (old new : Option (List ℕ)) : Type 0 where
  pub rest : List ℕ
  pub bytes : Appends old new (text ++ rest)
  pub alone : wants_more ≡ false → rest ≡ []

-- the bytes that were written are a report with this outcome, as far as its numbers determine the report
abbrev pub IsOfOutcome : Options → Outcome → Option (List ℕ) → Option (List ℕ) → Type 0
IsOfOutcome options outcome old new =
    BeginsWith (beginning_of options outcome.total outcome.added outcome.removed outcome.changed)
    (goes_on options outcome.added outcome.removed outcome.changed) old new

-- the counts of an outcome, with the number of paths that show an attribute
abbrev pub counts_told : Outcome → ℕ → Counts
counts_told outcome shown = record {
  added = outcome.added;
  removed = outcome.removed;
  changed = outcome.changed;
  total = outcome.total;
  shown = shown;
}

-- Each side was opened once to be read to its end, once to count, and once for each section of a report with this
-- outcome.
pub record OpensByOutcome (options : Options) (outcome : Outcome)
    (old new : Side → ℕ) : Type 0 where
  pub shown : ℕ
  pub opens : OpensExactly old new (2 + section_count options (counts_told outcome shown))
