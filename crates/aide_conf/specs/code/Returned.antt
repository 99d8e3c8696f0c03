-- What the code returns for a line, a directive or an effect, with the bytes that it borrows.
use Rattle.std.specs.Prelude.{ℕ, ◌≡◌, true, List, Option, Some, option_map, Result, Ok, Err}
use Rattle.std.specs.Borrow.{Bor}
use Rattle.aide_attr.specs.Name.{is_group_name}
use Rattle.aide_conf.specs.declared.fault.ConfFaultKind.{ConfFaultKind}
use Rattle.aide_conf.specs.declared.effect.Effect as code
use Rattle.aide_conf.specs.declared.effect.Effect.TheVariants as returned
use Rattle.aide_conf.specs.declared.directive.Directive.{Directive}
use Rattle.aide_conf.specs.declared.directive.Directive.TheVariants as directive
use Rattle.aide_conf.specs.Effect.{Effect, Nothing, Faulty, NamesDatabase, SetsLevel, SetsSwitch}
use Rattle.aide_conf.specs.Effect.{SetsAttributes, EndsOptions, DefinesGroup}

-- the bytes that are borrowed, if any
abbrev pub bytes_at : Option (Bor (List ℕ)) → Option (List ℕ)
bytes_at o = option_map (λ r. r.now) o

-- the effect that the code returns
abbrev pub effect_of : code.Effect → Effect
effect_of returned.Nothing = Nothing
effect_of (returned.NamesDatabase d p) = NamesDatabase d p.now
effect_of (returned.SetsLevel l) = SetsLevel l
effect_of (returned.SetsSwitch s b) = SetsSwitch s b
effect_of (returned.SetsAttributes l e) = SetsAttributes l e.now
effect_of returned.EndsOptions = EndsOptions
effect_of (returned.DefinesGroup n e) = DefinesGroup n.now e.now

-- the same for a result: a fault is an effect too
abbrev pub effect_or_fault : Result code.Effect ConfFaultKind → Effect
effect_or_fault (Err k) = Faulty k
effect_or_fault (Ok s) = effect_of s

-- if a group is defined, it has a name that groups may have
abbrev pub IsNamedWell : code.Effect → Type 0
IsNamedWell returned.Nothing = Unit {0}
IsNamedWell (returned.NamesDatabase d p) = Unit {0}
IsNamedWell (returned.SetsLevel l) = Unit {0}
IsNamedWell (returned.SetsSwitch s b) = Unit {0}
IsNamedWell (returned.SetsAttributes l e) = Unit {0}
IsNamedWell returned.EndsOptions = Unit {0}
IsNamedWell (returned.DefinesGroup n e) = is_group_name n.now ≡ true

-- the directive that the code returns, with its bytes as lists
abbrev pub as_lists : Directive (Bor (List ℕ)) → Option (Directive (List ℕ))
as_lists (directive.Define n v) = Some (directive.Define n.now v.now)
as_lists (directive.Undef n) = Some (directive.Undef n.now)
as_lists (directive.IfDef n) = Some (directive.IfDef n.now)
as_lists (directive.IfNotDef n) = Some (directive.IfNotDef n.now)
as_lists directive.IfOther = Some directive.IfOther
as_lists directive.Else = Some directive.Else
as_lists directive.EndIf = Some directive.EndIf
as_lists (directive.Omitted c) = Some (directive.Omitted c)
as_lists (directive.Unknown c) = Some (directive.Unknown c)
