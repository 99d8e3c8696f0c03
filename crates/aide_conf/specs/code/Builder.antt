-- What the code keeps after some places, and how each of its methods changes that.
use Rattle.std.specs.Prelude.{
  ℕ,
  ◌≡◌,
  Bool,
  true,
  List,
  [],
  ◌∷◌,
  ◌++◌,
  length,
  Option,
  Some,
  None,
  IsSome,
  map,
  option_map,
  Result,
  Ok,
  Err,
  ◌<◌,
  String,
  string_bytes,
  ◌⊎◌,
  if◌then◌else◌,
}
use Rattle.std.specs.List.{list_any}
use Rattle.std.specs.FinMap as finmap
use Rattle.aide_attr.specs.declared.set.AttrSet.{AttrSet}
use Rattle.aide_attr.specs.declared.level.Level.{Level}
use Rattle.aide_attr.specs.Groups.{Sets, names_of, IsFull, most_groups}
use Rattle.aide_attr.specs.declared.attr.Attr.{Attr}
use Rattle.aide_attr.specs.declared.expression.ExprFault.{ExprFault}
use Rattle.aide_attr.specs.Expression.{IsFault}
use Rattle.aide_conf.specs.declared.task.Need.{Need}
use Rattle.aide_conf.specs.declared.fault.ConfText.{ConfText}
use Rattle.aide_conf.specs.declared.fault.ConfFault.{ConfFault}
use Rattle.aide_conf.specs.declared.fault.ConfFaultKind.{ConfFaultKind}
use Rattle.aide_conf.specs.declared.fault.ConfFaultKind.TheVariants.{TooMany, Memory}
use Rattle.aide_conf.specs.declared.options.Options.{Options}
use Rattle.aide_conf.specs.declared.options.Switch.{Switch}
use Rattle.aide_conf.specs.declared.options.AttrList.{AttrList}
use Rattle.aide_conf.specs.declared.option_kind.Side.{Side}
use Rattle.aide_conf.specs.declared.option_kind.Side.TheVariants.{Old, New}
use Rattle.aide_conf.specs.declared.builder.SettingsBuilder.{SettingsBuilder}
use Rattle.aide_conf.specs.declared.blocks.Frame.{Frame}
use Rattle.aide_conf.specs.Cutting.{Place}
use Rattle.aide_conf.specs.Options.{options_of, switch_of, is_switch, attrs_of, is_list}
use Rattle.aide_conf.specs.Effect.{Effect, same}
use Rattle.aide_conf.specs.Marks.{Marked, says}
use Rattle.aide_conf.specs.MarkedGroups.{IsJudgedWell}
use Rattle.aide_conf.specs.RightMarks.{AreSound, Grows, IsMarkedWell}
use Rattle.aide_conf.specs.MarkedBlocks.{seen_in}
use Rattle.aide_conf.specs.MarkedGroups.{meaning_after, expression_in, group, group_names}
use Rattle.aide_conf.specs.MarkedVariables.{variable, is_defined, variable_names, defined_names}
use Rattle.aide_conf.specs.MarkedPaths.{path_set}
use Rattle.aide_conf.specs.code.PlaceFault.{line_fault, verdict_fault}
use Rattle.aide_conf.specs.FaultOrder.{fault_at}
use Rattle.aide_conf.specs.code.Stack.{IsOpen}
use Rattle.aide_conf.specs.code.Variables.{Values, values_of}
use Rattle.aide_conf.specs.Settings.{AreOptions, Configured, counted, fixes}

-- the bytes of a path, if there is one
abbrev pub text_at : {A : Type 0} → Option (String A) → Option (List ℕ)
text_at o = option_map (λ t. string_bytes t) o

-- the map `table` has the groups that these places define
pub record HasGroups (xs : List Marked) (table : Sets) : Type 0 where
  pub sets : (n : List ℕ) → finmap.get table n ≡ group xs n
  pub known : (n : List ℕ) → list_any (same n) (group_names xs) ≡ finmap.contains_key table n
  pub size : finmap.len table ≡ length (group_names xs)

-- the map `table` has the variables that are defined after these places
pub record HasVariables (xs : List Marked) (table : Values) : Type 0 where
  pub values : (n : List ℕ) → finmap.get table n ≡ variable xs n
  pub known : (n : List ℕ) → is_defined xs n ≡ true → list_any (same n) (variable_names xs) ≡ true
  pub size : finmap.len table ≡ length (defined_names xs)

-- the builder has what these places set
pub record IsBuiltFrom {A : Type 0} (xs : List Marked) (p : SettingsBuilder A) : Type 0 where
  pub groups : HasGroups xs (names_of p.groups)
  pub variables : HasVariables xs (values_of p.variables)
  pub options : AreOptions (counted xs) p.options
  pub fixed : p.fixed ≡ list_any fixes xs
  pub old_path : text_at p.old_path ≡ path_set Old xs
  pub new_path : text_at p.new_path ≡ path_set New xs

-- the settings that a builder gives
abbrev pub settings_of : {A : Type 0} → SettingsBuilder A → Configured
settings_of p = record {
  options = p.options;
  old_path = text_at p.old_path;
  new_path = text_at p.new_path;
}

-- the place of a text with this number and this line
abbrev pub place_at : ConfText → ℕ → Option (List ℕ) → Place
place_at text n line = record { text = text; number = n; line = line }

-- ---- what one method does

-- the options are these, unless they are fixed
abbrev pub unless_fixed : {A : Type 0} → SettingsBuilder A → Options → SettingsBuilder A
unless_fixed p o = if p.fixed then p else record p { options = o }

-- the options with this level, otherwise as before
abbrev pub with_level : Level → Options → Options
with_level l o = options_of l (switch_of o) (attrs_of o)

-- the options with this value of a switch, otherwise as before
abbrev pub with_switch : Switch → Bool → Options → Options
with_switch s b o =
    options_of o.level (λ t. if is_switch t s then b else switch_of o t) (attrs_of o)

-- the options with this set of attributes, otherwise as before
abbrev pub with_attrs : AttrList → AttrSet → Options → Options
with_attrs l set o =
    options_of o.level (switch_of o) (λ m. if is_list m l then set else attrs_of o m)

-- the path of a database is this one, and everything else is as before
abbrev pub NamesPath : {A : Type 0} → Side → List ℕ → SettingsBuilder A → SettingsBuilder A → Type 0
NamesPath Old path p q = (text_at q.old_path ≡ Some path) × (q ≡ record p { old_path = q.old_path })
NamesPath New path p q = (text_at q.new_path ≡ Some path) × (q ≡ record p { new_path = q.new_path })

-- a group has this set, and everything else is as before
pub record HasNewGroup {A : Type 0} (name : List ℕ) (set : AttrSet) (p q : SettingsBuilder A)
    : Type 0 where
  pub space : IsSome (finmap.get (names_of p.groups) name)
      ⊎ (finmap.len (names_of p.groups) < most_groups)
  pub table : names_of q.groups ≡ finmap.insert (names_of p.groups) name set
  pub others : q ≡ record p { groups = q.groups }

-- the fault of an answer, if the answer is a fault
abbrev pub fault_of : {E : Type 0} → Result E ConfFaultKind → Option ConfFaultKind
fault_of (Ok u) = None
fault_of (Err kind) = Some kind

-- the answer is this fault, or `Ok` if there is none, or out of memory
abbrev pub IsAnswered : {E : Type 0} → Option ConfFaultKind → Result E ConfFaultKind → Type 0
IsAnswered fault (Ok u) = fault ≡ None
IsAnswered fault (Err kind) = (fault ≡ Some kind) ⊎ (kind ≡ Memory)

-- The result of taking a line that says this, by its depth in blocks and whether the innermost
-- block is in its second part.
abbrev pub TakesEffect : {A E : Type 0} → List Marked → ℕ → Bool → Effect → SettingsBuilder A
    → Result E ConfFaultKind → Type 0
TakesEffect earlier depth divided r p (Ok u) =
    (v : Option (Result AttrSet ExprFault))
    × IsJudgedWell (meaning_after earlier) (expression_in r) v
    × (line_fault earlier depth divided r v ≡ None)
    × ((x : Marked) → says x ≡ r → x.verdict ≡ v → IsBuiltFrom (earlier ++ x ∷ []) p)
TakesEffect earlier depth divided r p (Err kind) =
    ((v : Option (Result AttrSet ExprFault))
    × IsJudgedWell (meaning_after earlier) (expression_in r) v
    × (line_fault earlier depth divided r v ≡ Some kind))
    ⊎ (kind ≡ Memory)

-- ---- places

-- the result of taking one place, after which these blocks are open
abbrev pub TakesOne : {A E : Type 0} → Need → List Marked → Place → SettingsBuilder A → List Frame
    → Result E ConfFaultKind → Type 0
TakesOne need earlier at p fs (Ok u) =
    (x : Marked) × (x.place ≡ at) × IsMarkedWell earlier x × (fault_at need earlier x ≡ None)
    × IsBuiltFrom (earlier ++ x ∷ []) p × IsOpen (seen_in at.text (earlier ++ x ∷ [])) fs
TakesOne need earlier at p fs (Err kind) =
    ((x : Marked) × (x.place ≡ at) × IsMarkedWell earlier x × (fault_at need earlier x ≡ Some kind))
    ⊎ ((kind ≡ Memory) × Grows earlier at)

-- the next places are taken without a fault
abbrev pub Takes : {A : Type 0} → Need → List Marked → List Place → SettingsBuilder A → Type 0
Takes need earlier ps p = (xs : List Marked) × (map (λ x. x.place) xs ≡ ps)
    × AreSound need earlier xs × IsBuiltFrom (earlier ++ xs) p

-- a fault at one of the next places
pub record Stops (need : Need) (earlier : List Marked) (ps : List Place) (e : ConfFault)
    : Type 0 where
  pub lines : List Marked
  pub at : Place
  pub rest : List Place
  pub cut : ps ≡ map (λ x. x.place) lines ++ at ∷ rest
  pub sound : AreSound need earlier lines
  pub text : e.text ≡ at.text
  pub line : e.line ≡ at.number
  pub kind :
      ((x : Marked) × (x.place ≡ at) × IsMarkedWell (earlier ++ lines) x
      × (fault_at need (earlier ++ lines) x ≡ Some e.kind))
      ⊎ ((e.kind ≡ Memory) × Grows (earlier ++ lines) at)

-- the result of taking the next places: all are taken, or a fault is found at one of them
abbrev pub TakesAll : {A E : Type 0} → Need → List Marked → List Place → SettingsBuilder A
    → Result E ConfFault → Type 0
TakesAll need earlier ps p (Ok u) = Takes need earlier ps p
TakesAll need earlier ps p (Err e) = Stops need earlier ps e

-- ---- refusals of one method

-- the kind of fault of an expression without a meaning
abbrev pub IsMisjudged : (List ℕ → Option (Attr → Bool)) → List ℕ → ConfFaultKind → Type 0
IsMisjudged look text kind = (e : ExprFault) × IsFault look text e
    × (verdict_fault (Some (Err e)) ≡ Some kind)

-- a group cannot be defined: there are too many, or an allocation failed
abbrev pub HasNoRoom : {A : Type 0} → List ℕ → SettingsBuilder A → ConfFaultKind → Type 0
HasNoRoom name p kind = ((kind ≡ TooMany) × IsFull (names_of p.groups) name) ⊎ (kind ≡ Memory)
