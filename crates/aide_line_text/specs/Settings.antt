-- What an accepted configuration says, as a line of JSON.
use Rattle.std.specs.Prelude.{ℕ, List, [], ◌∷◌, ◌++◌, Option, map, codes}
use Rattle.std.specs.List.{filter}
use Rattle.aide_attr.specs.Attr.{all_attrs, name_of}
use Rattle.aide_attr.specs.Level.{level_name}
use Rattle.aide_attr.specs.Set.{has}
use Rattle.aide_attr.specs.declared.attr.Attr.{Attr}
use Rattle.aide_attr.specs.declared.delta.Ignore.{Ignore}
use Rattle.aide_attr.specs.declared.set.AttrSet.{AttrSet}
use Rattle.aide_conf.specs.declared.options.Options.{Options}
use Rattle.aide_json.specs.Number.{count}
use Rattle.aide_json.specs.Value.{Member, Value, array, line, text_or_null, truth, values_of, word}

-- the options that are on or off, by their names in configurations
abbrev pub switch_members : Options → List Member
switch_members options =
    (codes "report_grouped", truth options.grouped)
    ∷ (codes "report_summarize_changes", truth options.summarize)
    ∷ (codes "report_base16", truth options.base16)
    ∷ (codes "report_quiet", truth options.quiet) ∷ []

-- an attribute by its name in configurations
abbrev pub attr_word : Attr → Value
attr_word a = word (name_of a)

-- the attributes of a set, in the order of all attributes
abbrev pub attrs_array : AttrSet → Value
attrs_array set = array (values_of (map attr_word (filter (has set) all_attrs)))

-- the sets of attributes that are ignored or forced, by their names in configurations
abbrev pub set_members : Ignore → List Member
set_members ignore =
    (codes "report_ignore_added_attrs", attrs_array ignore.added)
    ∷ (codes "report_ignore_removed_attrs", attrs_array ignore.removed)
    ∷ (codes "report_ignore_changed_attrs", attrs_array ignore.changed)
    ∷ (codes "report_force_attrs", attrs_array ignore.force) ∷ []

-- The members of the line of a configuration: the format's number, the paths of both databases, which are null if the
-- configuration does not name them, and the options of the report by their names in configurations, first the level,
-- then those that are on or off, then the sets of attributes.
abbrev pub settings_members : Options → (old_path new_path : Option (List ℕ)) → List Member
settings_members options old_path new_path =
    (codes "format", count 3)
    ∷ text_or_null (codes "database_in") old_path
    ∷ text_or_null (codes "database_new") new_path
    ∷ (codes "report_level", word (level_name options.level))
    ∷ (switch_members options ++ set_members options.ignore)

-- the line of a configuration
unfoldable pub settings_line : Options → (old_path new_path : Option (List ℕ)) → List ℕ
settings_line options old_path new_path = line (settings_members options old_path new_path)
