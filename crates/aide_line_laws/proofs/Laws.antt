-- The line of a change is one object of JSON and one line: its members are what the change is.
use Rattle.aide_conf.specs.declared.options.Options.{Options}
use Rattle.aide_line_run.specs.ChangeLines.{Accounts, change_line, widest}
use Rattle.aide_merge.specs.Said.{PathChange, letters_of, shows_at}
use Rattle.aide_line_laws.specs.ByteValues.{AreBytes, AreOfBytesIfAny}
use Rattle.aide_line_laws.specs.TextFields.{change_fields}
use Rattle.aide_line_laws.specs.JsonLine.{IsJsonLine}
use Rattle.aide_line_laws.proofs.Letters.{plain_letters}
use Rattle.aide_line_laws.proofs.EntryLaws.{path_line_is_json}

-- The line of a change is one: its path, its kind and its entries are those of the change.
pub change_line_is_json : (options : Options) (account : Accounts) (change : PathChange)
    → AreBytes change.0 → AreOfBytesIfAny change.1.0 → AreOfBytesIfAny change.1.1
    → IsJsonLine (change_line options account change) (change_fields options account change)
unfolding change_line
change_line_is_json options account change bytes old_bytes new_bytes =
    path_line_is_json change.0 (letters_of options.ignore change.1) (account change) (shows_at (widest options) change.1)
    change.1 bytes (plain_letters options.ignore change.1) old_bytes new_bytes
