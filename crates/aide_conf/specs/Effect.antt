-- What a line says, as a function of its bytes.
use Rattle.std.specs.Prelude.{ℕ, Bool, true, false, not, ◌&&◌, ◌||◌, ◌==◌, nat_lt, nat_eq, List, []}
use Rattle.std.specs.Prelude.{◌∷◌, length, drop}
use Rattle.std.specs.Prelude.{Option, Some, None, option_map, codes, if◌then◌else◌}
use Rattle.std.specs.List.{list_any, starts_with}
use Rattle.std.specs.Option.{option_or}
use Rattle.std.specs.Str.{is_utf8}
use Rattle.std.specs.Cmp.Lexicographic.{pointwise}
use Rattle.aide_attr.specs.declared.level.Level.{Level}
use Rattle.aide_attr.specs.Level.{level_named}
use Rattle.aide_attr.specs.LookUp.{look_up}
use Rattle.aide_attr.specs.Name.{is_group_name}
use Rattle.aide_conf.specs.declared.fault.ConfFaultKind.{ConfFaultKind}
use Rattle.aide_conf.specs.declared.fault.ConfFaultKind.TheVariants.{LeftOut, BadName, BadValue}
use Rattle.aide_conf.specs.declared.fault.ConfFaultKind.TheVariants.{BadUrl, LineTooLong}
use Rattle.aide_conf.specs.declared.fault.ConfFaultKind.TheVariants.{ValueTooLong, BadLine}
use Rattle.aide_conf.specs.declared.option_kind.Side.{Side}
use Rattle.aide_conf.specs.declared.option_kind.Side.TheVariants.{Old, New}
use Rattle.aide_conf.specs.declared.options.Switch.{Switch}
use Rattle.aide_conf.specs.declared.options.AttrList.{AttrList}
use Rattle.aide_conf.specs.declared.option_kind.OptionKind.{OptionKind}
use Rattle.aide_conf.specs.declared.option_kind.OptionKind.TheVariants as option
use Rattle.aide_conf.specs.Options.{switch_named, list_named}
use Rattle.aide_conf.specs.Cutting.{strip, bytes_before, bytes_after}
use Rattle.aide_conf.specs.Limits.{longest_line, longest_value}

-- the same bytes in the same order
abbrev pub same : List ℕ → List ℕ → Bool
same xs ys = pointwise nat_eq xs ys

-- the bytes begin with those of a text
abbrev pub begins : List ℕ → List ℕ → Bool
begins bs text = starts_with nat_eq bs text

-- What a line says: nothing, a fault that its bytes show by themselves, what it sets, or what it
-- does to blocks.
pub data Effect : Type 0 where
  Nothing : Effect
  Faulty : ConfFaultKind → Effect
  -- the path of a database
  NamesDatabase : Side → List ℕ → Effect
  SetsLevel : Level → Effect
  SetsSwitch : Switch → Bool → Effect
  -- a set of attributes, by an expression
  SetsAttributes : AttrList → List ℕ → Effect
  -- `report_url=stdout`
  EndsOptions : Effect
  -- a group's name and its expression
  DefinesGroup : List ℕ → List ℕ → Effect
  -- a variable's name and its value
  DefinesVariable : List ℕ → List ℕ → Effect
  -- the name of a variable that is no longer defined
  DropsVariable : List ℕ → Effect
  -- a block begins; false if its name is read and is no word
  OpensBlock : Bool → Effect
  DividesBlock : Effect
  ClosesBlock : Effect

-- ---- options

-- The options whose value is read and that are neither switches nor sets of attributes, each with
-- its name.
abbrev pub other_options : List (List ℕ × OptionKind)
other_options =
    (codes "database_in", option.Url Old)
    ∷ (codes "database", option.Url Old)
    ∷ (codes "database_new", option.Url New)
    ∷ (codes "report_level", option.Level)
    ∷ (codes "report_url", option.ReportUrl)
    ∷ (codes "report_format", option.ReportFormat)
    ∷ []

-- the switch or the set of attributes with a name
abbrev pub report_option : List ℕ → Option OptionKind
report_option n =
    option_or (option_map (λ s. option.Flag s) (switch_named n))
    (option_map (λ l. option.Attributes l) (list_named n))

-- the option that a name sets, if the value of this option is read
unfoldable pub main_option : List ℕ → Option OptionKind
main_option n = option_or (look_up other_options n) (report_option n)

-- the names of options that are accepted and set nothing here
abbrev pub accepted_names : List (List ℕ)
accepted_names =
    codes "database_out" ∷ codes "database_gzip" ∷ codes "gzip_dbout" ∷ codes "database_attrs"
    ∷ codes "database_add_metadata" ∷ codes "log_level" ∷ codes "verbose" ∷ codes "config_version"
    ∷ codes "config_check_warn_unrestricted_rules" ∷ codes "root_prefix" ∷ codes "num_workers"
    ∷ codes "acl_no_symlink_follow" ∷ codes "warn_dead_symlinks" ∷ codes "report_append"
    ∷ codes "report_detailed_init" ∷ codes "report_ignore_e2fsattrs" ∷ codes "syslog_format" ∷ []

-- whether this is one of these names
unfoldable pub is_accepted : List ℕ → Bool
is_accepted n = list_any (same n) accepted_names

-- the older names of options, which this program leaves out
abbrev pub older_names : List (List ℕ)
older_names =
    codes "ignore_list" ∷ codes "report_attributes" ∷ codes "grouped" ∷ codes "summarize_changes"
    ∷ []

-- whether this is one of these names
unfoldable pub is_older : List ℕ → Bool
is_older n = list_any (same n) older_names

-- the option of a name; any other name is that of a group
unfoldable pub option_named : List ℕ → Option OptionKind
option_named n =
    option_or (main_option n) (if is_accepted n then Some option.Accepted
    else if is_older n then Some option.Older else None)

-- ---- the values of options

-- the words for truth values
abbrev pub bool_words : List (List ℕ × Bool)
bool_words =
    (codes "yes", true) ∷ (codes "true", true) ∷ (codes "no", false) ∷ (codes "false", false) ∷ []

-- the truth value that a word means, if it means one
unfoldable pub bool_named : List ℕ → Option Bool
bool_named v = look_up bool_words v

-- the beginnings of URLs of databases that this program leaves out
abbrev pub left_out_schemes : List (List ℕ)
left_out_schemes = codes "fd:" ∷ codes "http:" ∷ codes "https:" ∷ codes "ftp:" ∷ []

-- the URLs of databases that this program leaves out
unfoldable pub is_left_out : List ℕ → Bool
is_left_out v = same v (codes "stdin") || list_any (begins v) left_out_schemes

-- the path after `file:`. `///p` means `/p`, `//p` names a host, and another text has to begin with `/`.
unfoldable pub path_after : List ℕ → Option (List ℕ)
path_after v =
    if begins v (codes "///") then Some (drop 2 v)
    else if begins v (codes "//") then None
    else if begins v (codes "/") then Some v
    else None

-- the path, if its bytes are UTF-8
abbrev pub in_utf8 : Option (List ℕ) → Option (List ℕ)
in_utf8 None = None
in_utf8 (Some p) = if is_utf8 p then Some p else None

-- the path of a database's URL
unfoldable pub path_of : List ℕ → Option (List ℕ)
path_of v = if begins v (codes "file:") then in_utf8 (path_after (drop 5 v)) else None

-- what the URL of a database says that leads to this path; a URL that leads to no path is bad
abbrev pub path_effect : Side → Option (List ℕ) → Effect
path_effect d None = Faulty BadUrl
path_effect d (Some p) =
    if nat_lt longest_value (length p) then Faulty ValueTooLong else NamesDatabase d p

-- what `report_level` says; a word that names no level is a bad value
abbrev pub level_effect : Option Level → Effect
level_effect None = Faulty BadValue
level_effect (Some l) = SetsLevel l

-- what a switch says; a word that means no truth value is a bad value
abbrev pub switch_effect : Switch → Option Bool → Effect
switch_effect s None = Faulty BadValue
switch_effect s (Some b) = SetsSwitch s b

-- What the URL of a database says. The kinds that this program leaves out have a fault of their
-- own, apart from bad URLs.
abbrev pub url_effect : Side → List ℕ → Effect
url_effect d v = if is_left_out v then Faulty LeftOut else path_effect d (path_of v)

-- What `report_format` says: for plain reports nothing, and JSON is left out.
abbrev pub format_effect : List ℕ → Effect
format_effect v = if same v (codes "json") then Faulty LeftOut
    else if same v (codes "plain") then Nothing else Faulty BadValue

-- what an option says with a value that is not empty
unfoldable pub value_effect : OptionKind → List ℕ → Effect
value_effect (option.Url d) v = url_effect d v
value_effect option.Level v = level_effect (level_named v)
value_effect (option.Flag s) v = switch_effect s (bool_named v)
value_effect (option.Attributes l) v = SetsAttributes l v
value_effect option.ReportUrl v = if same v (codes "stdout") then EndsOptions else Nothing
value_effect option.ReportFormat v = format_effect v
value_effect option.Accepted v = Nothing
value_effect option.Older v = Faulty LeftOut

-- ---- lines, stripped

-- an empty line or a comment
abbrev pub is_skipped : List ℕ → Bool
is_skipped [] = true
is_skipped (b ∷ bs) = b == 35

-- the line begins with `@@`, and the next byte is not `{`
unfoldable pub is_directive : List ℕ → Bool
is_directive bs = begins bs (codes "@@") && not (begins bs (codes "@@{"))

-- the words of the directives that this program leaves out
abbrev pub omitted_words : List (List ℕ)
omitted_words = codes "include" ∷ codes "x_include" ∷ codes "ifhost" ∷ codes "ifnhost" ∷ []

-- whether this is one of these words
unfoldable pub is_omitted : List ℕ → Bool
is_omitted w = list_any (same w) omitted_words

-- the line begins with a byte that selection lines begin with
unfoldable pub is_selection : List ℕ → Bool
is_selection bs = list_any (begins bs) (codes "/" ∷ codes "!" ∷ codes "=" ∷ codes "-" ∷ [])

-- the byte `=`, which ends the name of an option or a group
abbrev pub is_equals : ℕ → Bool
is_equals b = b == 61

-- what a name and its value say
abbrev pub assigned : Option OptionKind → List ℕ → List ℕ → Effect
assigned (Some o) name value = if length value == 0 then Faulty BadValue else value_effect o value
assigned None name value = if is_group_name name then DefinesGroup name value else Faulty BadName

-- what a line says with this name before its first `=` and this value after it, if there is a `=`
abbrev pub cut_effect : Option (List ℕ) → List ℕ → Effect
cut_effect None name = Faulty BadLine
cut_effect (Some value) name = assigned (option_named name) name (strip value)

-- what a stripped line says after expansion if it is neither skipped nor too long
unfoldable pub kept_effect : List ℕ → Effect
kept_effect bs = if is_selection bs then Nothing
    else cut_effect (bytes_after is_equals bs) (strip (bytes_before is_equals bs))

-- what a stripped line says after expansion
abbrev pub expanded_effect : List ℕ → Effect
expanded_effect bs =
    if is_skipped bs then Nothing
    else if nat_lt longest_line (length bs) then Faulty LineTooLong
    else kept_effect bs
