-- The comparison that a list of arguments asks for, by the matches that `clap` states. It may name a trusted pair.
use Rattle.std.specs.Prelude.{true, List, Option, Some, None, codes, if◌then◌else◌}
use Rattle.clap.specs.Walk.{Row, Rule, Text, is_empty}
use Rattle.clap.specs.Simple.{App, matches_of, new_app, new_rule, with_rule}
use Rattle.clap.specs.Faults.{fault_of}
use Rattle.clap.specs.declared.builder.action.ArgAction.TheVariants.{Set, SetTrue}
use Rattle.aide_words.specs.Job.{exactly_one, option_rule, text_of, with_texts}
use Rattle.aide_words.specs.declared.line_job.LineJob.{LineJob}

-- an option without a letter; its long name is its id
abbrev pub long_rule : Text → Rule
long_rule id = record (new_rule id) { long = Some id; action = Some Set }

-- a command with the flag of a comparison, which has to be given
abbrev pub with_compare : App → App
with_compare app =
    with_rule app (record (option_rule (codes "compare") 69 SetTrue) { required = true })

-- a command with the options that name a trusted pair
abbrev pub with_trusted : App → App
with_trusted app = with_rule (with_rule app
    (long_rule (codes "trusted-old")))
    (long_rule (codes "trusted-new"))

-- a command with the option that gives a list of what is left out
abbrev pub with_list : App → App
with_list app = with_rule app (long_rule (codes "without"))

-- The command of a comparison. It has the options of `aide` but the one that only checks the
-- configuration, and may be given a trusted pair and a list of what is left out.
unfoldable pub line_command : App
line_command = with_list
    (with_trusted (with_texts (with_compare (new_app (codes "aide_lines")))))

-- the job of the program
pub record LineJobText : Type 0 where
  pub config : Text
  pub before : Text
  pub after : Text
  -- the paths of the trusted pair; both are empty if none was named
  pub trusted_old : Text
  pub trusted_new : Text
  -- the text of the list of what is left out
  pub without : Text

-- the texts of the options
abbrev pub line_job_text : List Row → LineJobText
line_job_text rows = record {
  config = text_of (codes "config") rows;
  before = text_of (codes "before") rows;
  after = text_of (codes "after") rows;
  trusted_old = text_of (codes "trusted-old") rows;
  trusted_new = text_of (codes "trusted-new") rows;
  without = text_of (codes "without") rows;
}

-- a job that names both databases of a trusted pair, or neither
abbrev pub paired : LineJobText → Option LineJobText
paired job =
    if exactly_one (is_empty job.trusted_old) (is_empty job.trusted_new) then None else Some job

-- the comparison that the arguments ask for, if there is one
abbrev pub line_job_of : List Text → Option LineJobText
line_job_of words =
    if is_empty (fault_of line_command words)
    then paired (line_job_text (matches_of line_command words)) else None

-- the texts of a job
abbrev pub text_of_line_job : LineJob → LineJobText
text_of_line_job j = record {
  config = j.config;
  before = j.before;
  after = j.after;
  trusted_old = j.trusted_old;
  trusted_new = j.trusted_new;
  without = j.without;
}
