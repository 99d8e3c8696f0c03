-- How the code represents what is known of a database at its end.
use Rattle.aide_line_text.specs.Frame.{ReadFacts}
use Rattle.aide_line_text.specs.declared.frame.Read.{Read}

-- what is known of a database
abbrev pub facts_read : Read → ReadFacts
facts_read read = record { digest = read.digest.now; skipped = read.skipped }
