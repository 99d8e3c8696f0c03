-- The members of the lines of changes, line by line.
use Rattle.std.specs.Prelude.{ℕ, List, [], ◌∷◌, ◌++◌, map}
use Rattle.aide_conf.specs.declared.options.Options.{Options}
use Rattle.aide_db.specs.Map.{database_of}
use Rattle.aide_merge.specs.Asked.{Asked}
use Rattle.aide_line_run.specs.ChangeLines.{Accounts, listed_changes, widest}
use Rattle.aide_merge.specs.Compare.{changes}
use Rattle.aide_merge.specs.Said.{PathChange, letters_of, shows_at}
use Rattle.aide_line_run.specs.LineCounts.{line_counts, status_by}
use Rattle.aide_line_run.specs.Lines.{read_of}
use Rattle.aide_line_run.specs.Lines.{by_texts}
use Rattle.aide_line_run.specs.Listed.{ListRead}
use Rattle.aide_line_text.specs.Entry.{path_members}
use Rattle.aide_line_text.specs.Frame.{closing_members, opening_members}
use Rattle.aide_line_laws.specs.Field.{Field, fields_of}

-- the members of the line of a change
abbrev pub change_fields : Options → Accounts → PathChange → List Field
change_fields options account change =
    fields_of (path_members change.0 (letters_of options.ignore change.1) (account change)
    (shows_at (widest options) change.1) change.1)

-- those of a first line, and of each change that has a line
abbrev pub fields_begun : Options → Accounts → List Field → List PathChange → List (List Field)
fields_begun options account first changes =
    first ∷ map (change_fields options account) (listed_changes options changes)

-- those of a first line, of each change that has a line, and of a last line
abbrev pub fields_of_lines : Options → Accounts → (first last : List Field) → List PathChange
    → List (List Field)
fields_of_lines options account first last changes =
    fields_begun options account first changes ++ last ∷ []

-- those of the lines over two texts with a trusted pair and a list
abbrev pub fields_of_texts : ListRead → (asked trusted : Asked)
    → (old new trusted_old trusted_new : List ℕ)
    → List (List Field)
fields_of_texts list asked trusted old new trusted_old trusted_new =
    let account = by_texts list old new trusted_old trusted_new in
    let counts = line_counts asked.options account (database_of old) (database_of new) in
    fields_of_lines asked.options account
    (fields_of (opening_members asked.old_path asked.new_path trusted.old_path trusted.new_path))
    (fields_of (closing_members
    (read_of old) (read_of new) (read_of trusted_old) (read_of trusted_new)
    list.digest counts (status_by counts))) (changes (database_of old) (database_of new))
