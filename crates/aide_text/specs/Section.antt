-- The table of the sections of entries. All definitions that depend on this table are here.
use Rattle.std.specs.Prelude.{ℕ, ◌&&◌, not, Bool, true, false, if◌then◌else◌, List, [], ◌∷◌, codes}
use Rattle.std.specs.Prelude.{Option, Some, None}
use Rattle.aide_attr.specs.Level.{reaches}
use Rattle.aide_attr.specs.declared.level.Level.{Level}
use Rattle.aide_attr.specs.declared.level.Level.TheVariants.{ListEntries, ChangedAttributes}
use Rattle.aide_text.specs.declared.section.Contents.{Contents}
use Rattle.aide_text.specs.declared.section.Contents.TheVariants.{Listed, Detailed}
use Rattle.aide_text.specs.declared.section.Section.{Section}
use Rattle.aide_text.specs.declared.section.Section.TheVariants.{AddedEntries, RemovedEntries}
use Rattle.aide_text.specs.declared.section.Section.TheVariants.{ChangedEntries, AllEntries}
use Rattle.aide_text.specs.declared.section.Section.TheVariants.{Details}

-- A row of the table: the title; the first level whose reports contain the section; whether lists
-- have to be grouped or must not be, or `None` if both are allowed; and the contents. Three flags
-- decide whether a list contains the added, the removed and the changed entries.
pub record Row : Type 0 where
  pub title : List ℕ
  pub level : Level
  pub grouped : Option Bool
  pub contents : Contents

-- a row by its parts
unfoldable pub row : List ℕ → Level → Option Bool → Contents → Row
row title level grouped contents = record {
  title = title;
  level = level;
  grouped = grouped;
  contents = contents;
}

-- the table of sections
unfoldable pub row_of : Section → Row
row_of AddedEntries =
    row (codes "Added entries:") ListEntries (Some true) (Listed true false false)
row_of RemovedEntries =
    row (codes "Removed entries:") ListEntries (Some true) (Listed false true false)
row_of ChangedEntries =
    row (codes "Changed entries:") ListEntries (Some true) (Listed false false true)
row_of AllEntries =
    row (codes "Added, removed and changed entries:") ListEntries (Some false)
    (Listed true true true)
row_of Details =
    row (codes "Detailed information about changes:") ChangedAttributes None Detailed

-- every section, in the order of the report
abbrev pub all_sections : List Section
all_sections =
    AddedEntries ∷ RemovedEntries ∷ ChangedEntries ∷ AllEntries ∷ Details ∷ []

-- the title of a section
abbrev pub title_of : Section → List ℕ
title_of section = (row_of section).title

-- the first level whose reports contain the section
abbrev pub level_of : Section → Level
level_of section = (row_of section).level

-- whether lists have to be grouped, or must not be
abbrev pub grouped_of : Section → Option Bool
grouped_of section = (row_of section).grouped

-- the contents of a section
abbrev pub contents_of : Section → Contents
contents_of section = (row_of section).contents

-- whether the section may be in a report whose lists are grouped, or are not
abbrev pub fits : Option Bool → Bool → Bool
fits None grouped = true
fits (Some wanted) grouped = if wanted then grouped else not grouped

-- whether a report of this level asks for the section, by whether its lists are grouped
abbrev pub is_asked : Level → Bool → Section → Bool
is_asked level grouped section =
    reaches level (level_of section) && fits (grouped_of section) grouped

-- The empty line below the title. The details have none here, because each of their entries begins
-- with one.
abbrev pub gap_of : Contents → List ℕ
gap_of (Listed added removed changed) = 10 ∷ []
gap_of Detailed = []
