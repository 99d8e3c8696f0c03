-- The titles of the parts of a report.
use Rattle.std.specs.Prelude.{ℕ, List, ◌++◌, codes}
use Rattle.aide_text.specs.Layout.{ended}
use Rattle.aide_text.specs.Section.{title_of, contents_of, gap_of}
use Rattle.aide_text.specs.declared.section.Section.{Section}

-- an empty line and a line of 51 hyphens
unfoldable pub rule_before : List ℕ
rule_before = codes "\n---------------------------------------------------\n"

-- a line of 51 hyphens
unfoldable pub rule_after : List ℕ
rule_after = codes "---------------------------------------------------\n"

-- a title between two rules of hyphens
unfoldable pub titled : List ℕ → List ℕ
titled title = rule_before ++ (ended title ++ rule_after)

-- the title lines of a section
unfoldable pub section_head : Section → List ℕ
section_head section = titled (title_of section) ++ gap_of (contents_of section)
