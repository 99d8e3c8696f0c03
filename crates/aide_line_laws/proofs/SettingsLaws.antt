-- The line of a configuration is one object of JSON and one line.
use Rattle.std.proofs.Common.{◌≡◌, List, Option, refl, true, ℕ}
use Rattle.std.specs.Prelude.{codes}
use Rattle.std.specs.List.{filter}
use Rattle.aide_attr.specs.Attr.{all_attrs, name_of, row_of, row}
use Rattle.aide_attr.specs.Level.{level_name}
use Rattle.aide_attr.specs.Set.{has}
use Rattle.aide_attr.specs.declared.attr.Attr.{Attr}
use Rattle.aide_attr.specs.declared.attr.Attr.TheVariants as attr
use Rattle.aide_attr.specs.declared.level.Level.{Level}
use Rattle.aide_attr.specs.declared.level.Level.TheVariants as level
use Rattle.aide_attr.specs.declared.set.AttrSet.{AttrSet}
use Rattle.aide_conf.specs.declared.options.Options.{Options}
use Rattle.aide_line_text.specs.Settings.{attr_word, attrs_array, settings_line, settings_members}
use Rattle.aide_line_laws.specs.ByteValues.{AreBytesIfAny}
use Rattle.aide_line_laws.specs.Field.{fields_of}
use Rattle.aide_line_laws.specs.JsonLine.{IsJsonLine}
use Rattle.aide_line_laws.specs.Readable.{IsReadable, are_plain}
use Rattle.aide_line_laws.proofs.Printed.{line_is_json}
use Rattle.aide_line_laws.proofs.ReadableLaws.{also, count_readable, each_readable, text_or_null_readable}

plain_level : (l : Level) → are_plain (level_name l) ≡ true
plain_level level.Minimal = refl
plain_level level.Summary = refl
plain_level level.DatabaseAttributes = refl
plain_level level.ListEntries = refl
plain_level level.ChangedAttributes = refl
plain_level level.AddedRemovedAttributes = refl
plain_level level.AddedRemovedEntries = refl

plain_name : (a : Attr) → are_plain (name_of a) ≡ true
unfolding row_of row
plain_name attr.Ftype = refl
plain_name _ = refl

set_readable : (set : AttrSet) → IsReadable (attrs_array set) 127
set_readable set = each_readable attr_word (filter (has set) all_attrs) 126 plain_name

-- The line of a configuration is one, if the paths are of bytes.
pub settings_line_is_json : (options : Options) (old_path new_path : Option (List ℕ))
    → AreBytesIfAny old_path → AreBytesIfAny new_path
    → IsJsonLine (settings_line options old_path new_path) (fields_of (settings_members options old_path new_path))
unfolding settings_line
settings_line_is_json options old_path new_path old_bytes new_bytes =
    let ignore = options.ignore in
    line_is_json (settings_members options old_path new_path)
    (also (refl, count_readable 3 127) (also (text_or_null_readable (codes "database_in") old_path 127 refl old_bytes)
    (also (text_or_null_readable (codes "database_new") new_path 127 refl new_bytes)
    (also (refl, plain_level options.level) (also (refl, tt) (also (refl, tt) (also (refl, tt) (also (refl, tt)
    (also (refl, set_readable ignore.added) (also (refl, set_readable ignore.removed)
    (also (refl, set_readable ignore.changed) (also (refl, set_readable ignore.force) tt))))))))))))
