-- How the code represents a list, and which databases measure capabilities.
use Rattle.aide_left_out.specs.declared.change.Measures.{Measures}
use Rattle.aide_merge.specs.declared.merge.Merge.{Merge}
use Rattle.aide_line_run.specs.Listed.{ListRead, measures_by}
use Rattle.aide_line_run.specs.declared.list.LeftOutList.{LeftOutList}

-- what was read of a list
abbrev pub list_read : LeftOutList → ListRead
list_read list = record { rules = list.rules.now; digest = list.digest.now }

-- which of the databases of a merge have the column of capabilities, by the columns that it has read
abbrev pub measures_at : {R : Type 0} → Merge R → Measures
measures_at m = measures_by m.old_cursor.columns m.new_cursor.columns
