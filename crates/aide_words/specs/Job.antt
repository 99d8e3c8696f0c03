-- The job that a list of arguments asks for, by the matches that `clap` states.
use Rattle.std.specs.Prelude.{◌&&◌, ◌||◌, not, ℕ, Bool, true, false, List, [], Option, Some, None}
use Rattle.std.specs.Prelude.{codes, unwrap_or, if◌then◌else◌, option_and_then}
use Rattle.std.specs.Option.{option_map_or}
use Rattle.std.specs.Str.{bytes_eq}
use Rattle.clap.specs.Walk.{Row, Rule, Text, first_of, is_empty}
use Rattle.clap.specs.Simple.{App, matches_of, new_app, new_rule, with_rule}
use Rattle.clap.specs.Faults.{fault_of}
use Rattle.clap.specs.declared.builder.action.ArgAction.{ArgAction}
use Rattle.aide_words.specs.declared.job.Job.{Job}
use Rattle.clap.specs.declared.builder.action.ArgAction.TheVariants.{Set, SetTrue}
use Rattle.aide_words.specs.declared.job.WordsFault.{WordsFault}
use Rattle.aide_words.specs.declared.job.WordsFault.TheVariants as refusal

-- an option by its id, its letter and its action; its long name is its id
abbrev pub option_rule : Text → ℕ → ArgAction → Rule
option_rule id letter action =
    record (new_rule id) { short = Some letter; long = Some id; action = Some action }

-- a command with the two flags
abbrev pub with_flags : App → App
with_flags app = with_rule (with_rule app (option_rule (codes "compare") 69 SetTrue))
    (option_rule (codes "config-check") 68 SetTrue)

-- a command with the options that take a text
abbrev pub with_texts : App → App
with_texts app = with_rule (with_rule (with_rule app
    (record (option_rule (codes "config") 99 Set) { required = true }))
    (option_rule (codes "before") 66 Set))
    (option_rule (codes "after") 65 Set)

-- the command `aide` with its options
unfoldable pub aide_command : App
aide_command = with_rule (with_rule (with_rule (with_rule (with_rule (new_app (codes "aide"))
    (option_rule (codes "compare") 69 SetTrue))
    (option_rule (codes "config-check") 68 SetTrue))
    (record (option_rule (codes "config") 99 Set) { required = true }))
    (option_rule (codes "before") 66 Set))
    (option_rule (codes "after") 65 Set)

-- a flag was given
abbrev pub flag_of : Text → List Row → Bool
flag_of id rows = option_map_or (bytes_eq (codes "true")) (first_of id rows) false

-- the job of the program
pub record JobText : Type 0 where
  pub compare : Bool
  pub config : Text
  pub before : Text
  pub after : Text

-- the value of an option, or the empty text if the option was not given
abbrev pub text_of : Text → List Row → Text
text_of id rows = unwrap_or (first_of id rows) []

-- exactly one of the two holds
abbrev pub exactly_one : Bool → Bool → Bool
exactly_one a b = (a && not b) || (b && not a)

-- the job over a configuration, if exactly one of the two flags was given
abbrev pub job_for : List Row → Text → Option JobText
job_for rows config =
    if exactly_one (flag_of (codes "compare") rows) (flag_of (codes "config-check") rows)
    then Some (record {
      compare = flag_of (codes "compare") rows;
      config = config;
      before = text_of (codes "before") rows;
      after = text_of (codes "after") rows;
    }) else None

-- the job of what was matched, if a configuration is named
abbrev pub job_of_rows : List Row → Option JobText
job_of_rows rows = option_and_then (job_for rows) (first_of (codes "config") rows)

-- the job of the arguments, if there is one
abbrev pub job_of : List Text → Option JobText
job_of words =
    if is_empty (fault_of aide_command words)
    then job_of_rows (matches_of aide_command words) else None

-- the texts of a job
abbrev pub text_of_job : Job → JobText
text_of_job j = record {
  compare = j.compare;
  config = j.config;
  before = j.before;
  after = j.after;
}

-- the code of a reason to refuse arguments, from 1
abbrev pub code_of_refusal : WordsFault → ℕ
code_of_refusal refusal.Usage = 1
code_of_refusal refusal.Memory = 2
