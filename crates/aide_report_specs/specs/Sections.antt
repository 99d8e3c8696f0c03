-- The sections of entries: which ones a report contains, and their texts.
use Rattle.std.specs.Prelude.{ℕ, ◌==◌, ◌||◌, ◌&&◌, not, Bool, false, if◌then◌else◌, List, [], ◌++◌}
use Rattle.std.specs.Prelude.{Some, None}
use Rattle.std.specs.List.{flat_map, filter}
use Rattle.aide_conf.specs.declared.options.Options.{Options}
use Rattle.aide_merge.specs.Said.{PathChange, is_in}
use Rattle.aide_report_specs.specs.Entries.{list_line, entry_details}
use Rattle.aide_text.specs.Section.{all_sections, contents_of, is_asked}
use Rattle.aide_text.specs.Titles.{section_head}
use Rattle.aide_text.specs.declared.counts.Counts.{Counts}
use Rattle.aide_text.specs.declared.section.Contents.{Contents}
use Rattle.aide_text.specs.declared.section.Contents.TheVariants.{Listed, Detailed}
use Rattle.aide_text.specs.declared.section.Section.{Section}

-- ---- which sections there are

-- whether any entry is in a section with these contents, by the counts
abbrev pub has_entry : Counts → Contents → Bool
has_entry counts (Listed added removed changed) =
    (added && not (counts.added == 0))
    || ((removed && not (counts.removed == 0)) || (changed && not (counts.changed == 0)))
has_entry counts Detailed = not (counts.shown == 0)

-- whether the report contains the section: the options ask for it, and an entry is in it
abbrev pub is_there : Options → Counts → Section → Bool
is_there options counts section =
    is_asked options.level options.grouped section && has_entry counts (contents_of section)

-- the sections of the report, in their order
abbrev pub sections_of : Options → Counts → List Section
sections_of options counts = filter (is_there options counts) all_sections

-- ---- their texts

-- whether a list is to contain changes of this kind, if they are listed at all
abbrev pub lists : Contents → PathChange → Bool
lists (Listed added removed changed) (path, (None, Some new)) = added
lists (Listed added removed changed) (path, (Some old, None)) = removed
lists (Listed added removed changed) (path, (Some old, Some new)) = changed
lists _ _ = false

-- the text of a change in a section with these contents: a line, or details
abbrev pub entry_text : Options → Contents → PathChange → List ℕ
entry_text options (Listed added removed changed) entry = list_line options entry
entry_text options Detailed entry = entry_details options entry

-- the same, and nothing for a change that is not in it
unfoldable pub one_text : Options → Contents → PathChange → List ℕ
one_text options contents entry =
    if is_in options contents entry then entry_text options contents entry else []

-- the texts of all changes in a section with these contents, in their order
unfoldable pub entries_text : Options → Contents → List PathChange → List ℕ
entries_text options contents entries =
    flat_map (entry_text options contents) (filter (is_in options contents) entries)

-- the title lines of a section, and the texts of all changes in it
unfoldable pub section_text : Options → List PathChange → Section → List ℕ
section_text options entries section =
    section_head section ++ entries_text options (contents_of section) entries
