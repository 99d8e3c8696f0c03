-- The settings that marked lines give.
use Rattle.std.specs.Prelude.{ℕ, ◌≡◌, Bool, true, false, List, [], ◌∷◌, Option, Some, None}
use Rattle.std.specs.Prelude.{unwrap_or, if◌then◌else◌, Result}
use Rattle.aide_attr.specs.declared.attr.Attr.{Attr}
use Rattle.aide_attr.specs.declared.set.AttrSet.{AttrSet}
use Rattle.aide_attr.specs.declared.expression.ExprFault.{ExprFault}
use Rattle.aide_attr.specs.declared.level.Level.{Level}
use Rattle.aide_attr.specs.declared.level.Level.TheVariants.{ChangedAttributes}
use Rattle.aide_attr.specs.Set.{has}
use Rattle.aide_conf.specs.declared.options.Options.{Options}
use Rattle.aide_conf.specs.declared.options.Switch.{Switch}
use Rattle.aide_conf.specs.declared.options.AttrList.{AttrList}
use Rattle.aide_conf.specs.declared.option_kind.Side.TheVariants.{Old, New}
use Rattle.aide_conf.specs.Options.{switch_of, switch_default, is_switch, attrs_of, is_list}
use Rattle.aide_conf.specs.Effect.{Effect, SetsLevel, SetsSwitch, SetsAttributes, EndsOptions}
use Rattle.aide_conf.specs.Marks.{Marked, says, last_given}
use Rattle.aide_conf.specs.MarkedGroups.{set_meant}
use Rattle.aide_conf.specs.MarkedPaths.{path_set}

-- Settings, as contracts see them: the options of the report, and the bytes of both databases'
-- paths, if these are given.
pub record Configured : Type 0 where
  pub options : Options
  pub old_path : Option (List ℕ)
  pub new_path : Option (List ℕ)

-- after this line no option of the report changes
abbrev pub fixes_by : Effect → Bool
fixes_by EndsOptions = true
fixes_by _ = false

-- `report_url=stdout` is at this place
abbrev pub fixes : Marked → Bool
fixes x = fixes_by (says x)

-- The places whose report options count: those before the first place that fixes the options, or
-- all places if none does.
abbrev pub counted : List Marked → List Marked
counted [] = []
counted (x ∷ xs) = if fixes x then [] else x ∷ counted xs

-- ---- the level

-- the level that a line sets
abbrev pub level_by : Effect → Option Level
level_by (SetsLevel l) = Some l
level_by _ = None

-- the level that a place sets, by what it says
abbrev pub level_in : Marked → Option Level
level_in x = level_by (says x)

-- ---- the switches

-- the value that a line gives to a switch
abbrev pub switch_by : Switch → Effect → Option Bool
switch_by s (SetsSwitch t b) = if is_switch s t then Some b else None
switch_by _ _ = None

-- the value that a place gives to a switch, by what it says
abbrev pub switch_in : Switch → Marked → Option Bool
switch_in s x = switch_by s (says x)

-- ---- the sets of attributes

-- the set that a line gives to a set of attributes, by the verdict on its expression
abbrev pub attrs_by : AttrList → Effect → Option (Result AttrSet ExprFault) → Option AttrSet
attrs_by l (SetsAttributes m e) verdict = if is_list l m then set_meant verdict else None
attrs_by _ _ _ = None

-- the set that a place gives to a set of attributes, by what it says and its verdict
abbrev pub attrs_in : AttrList → Marked → Option AttrSet
attrs_in l x = attrs_by l (says x) x.verdict

-- whether a set has an attribute, which is never so if no set is given
abbrev pub has_any : Option AttrSet → Attr → Bool
has_any None a = false
has_any (Some s) a = has s a

-- ---- all of them

-- The options that these places give, if all of them count. Each option has its last value, or else
-- its default.
pub record AreOptions (xs : List Marked) (o : Options) : Type 0 where
  pub level : o.level ≡ unwrap_or (last_given level_in xs) ChangedAttributes
  pub switches : (s : Switch)
      → switch_of o s ≡ unwrap_or (last_given (switch_in s) xs) (switch_default s)
  pub attrs : (l : AttrList) (a : Attr)
      → has (attrs_of o l) a ≡ has_any (last_given (attrs_in l) xs) a

-- the settings that places give
pub record AreSettings (xs : List Marked) (c : Configured) : Type 0 where
  pub options : AreOptions (counted xs) c.options
  pub old_path : c.old_path ≡ path_set Old xs
  pub new_path : c.new_path ≡ path_set New xs
