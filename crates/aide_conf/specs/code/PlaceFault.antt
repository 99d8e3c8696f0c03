-- The fault of a place, by what its line says and the places before it.
use Rattle.std.specs.Prelude.{ℕ, Bool, ◌||◌, ◌==◌, nat_le, List, Option, Some, None, is_none}
use Rattle.std.specs.Prelude.{if◌then◌else◌, Result, Ok, Err}
use Rattle.std.specs.Option.{option_or}
use Rattle.aide_attr.specs.declared.set.AttrSet.{AttrSet}
use Rattle.aide_attr.specs.declared.expression.ExprFault.{ExprFault}
use Rattle.aide_attr.specs.declared.expression.ExprFault.TheVariants as expression
use Rattle.aide_conf.specs.declared.fault.ConfText.{ConfText}
use Rattle.aide_conf.specs.declared.fault.ConfText.TheVariants.{After}
use Rattle.aide_conf.specs.declared.fault.ConfFaultKind.{ConfFaultKind}
use Rattle.aide_conf.specs.declared.fault.ConfFaultKind.TheVariants.{StrayElse, StrayEndif}
use Rattle.aide_conf.specs.declared.fault.ConfFaultKind.TheVariants.{MissingEndif, TooDeep, BadName}
use Rattle.aide_conf.specs.declared.fault.ConfFaultKind.TheVariants.{UnknownAttribute}
use Rattle.aide_conf.specs.declared.fault.ConfFaultKind.TheVariants.{BadExpression, TooMany}
use Rattle.aide_conf.specs.declared.fault.ConfFaultKind.TheVariants.{NoOldDatabase, NoNewDatabase}
use Rattle.aide_conf.specs.declared.task.Need.{Need}
use Rattle.aide_conf.specs.declared.task.Need.TheVariants.{Compare}
use Rattle.aide_conf.specs.declared.option_kind.Side.TheVariants.{Old, New}
use Rattle.aide_conf.specs.Effect.{Effect, Faulty, SetsAttributes, DefinesGroup, DefinesVariable}
use Rattle.aide_conf.specs.Effect.{OpensBlock, DividesBlock, ClosesBlock}
use Rattle.aide_conf.specs.Limits.{deepest}
use Rattle.aide_conf.specs.Marks.{Marked, says}
use Rattle.aide_conf.specs.MarkedGroups.{is_too_many}
use Rattle.aide_conf.specs.MarkedVariables.{is_one_variable_more}
use Rattle.aide_conf.specs.MarkedPaths.{path_set}

-- the fault of an expression that has no meaning
abbrev pub verdict_fault : Option (Result AttrSet ExprFault) → Option ConfFaultKind
verdict_fault None = None
verdict_fault (Some (Ok s)) = None
verdict_fault (Some (Err (expression.UnknownName i))) = Some UnknownAttribute
verdict_fault (Some (Err (expression.BadExpression i))) = Some BadExpression

-- the fault, unless a required condition holds
abbrev pub fault_unless : Bool → ConfFaultKind → Option ConfFaultKind
fault_unless holds kind = if holds then None else Some kind

-- the fault of a line after these places, by its depth in blocks and whether the innermost block is in its second part
abbrev pub line_fault : List Marked → ℕ → Bool → Effect → Option (Result AttrSet ExprFault)
    → Option ConfFaultKind
line_fault earlier depth divided (Faulty k) verdict = Some k
line_fault earlier depth divided (SetsAttributes l e) verdict = verdict_fault verdict
line_fault earlier depth divided (DefinesGroup n e) verdict =
    option_or (verdict_fault verdict) (if is_too_many earlier n then Some TooMany else None)
line_fault earlier depth divided (DefinesVariable n v) verdict =
    if is_one_variable_more earlier n then Some TooMany else None
line_fault earlier depth divided (OpensBlock good) verdict =
    if nat_le deepest depth then Some TooDeep else fault_unless good BadName
line_fault earlier depth divided DividesBlock verdict =
    if depth == 0 || divided then Some StrayElse else None
line_fault earlier depth divided ClosesBlock verdict = if depth == 0 then Some StrayEndif else None
line_fault _ _ _ _ _ = None

-- the fault if a database is not named; the fault for the old one comes first
abbrev pub missing : Bool → Bool → Option ConfFaultKind
missing no_old no_new =
    if no_old then Some NoOldDatabase else if no_new then Some NoNewDatabase else None

-- the fault of a block that is open at the end of its text
abbrev pub end_block_fault : ℕ → Option ConfFaultKind
end_block_fault depth = if depth == 0 then None else Some MissingEndif

-- the fault at the end of the last text if the databases are to be compared and one of them is not named
abbrev pub end_fault : Need → ConfText → List Marked → Option ConfFaultKind
end_fault Compare After earlier =
    missing (is_none (path_set Old earlier)) (is_none (path_set New earlier))
end_fault _ _ _ = None

-- The fault of a line, or of the end of a text. The fault of an open block comes before the fault of a database that is
-- not named.
abbrev pub place_fault : Need → List Marked → Marked → Option (List ℕ) → Option ConfFaultKind
place_fault need earlier x None =
    option_or (end_block_fault x.depth) (end_fault need x.place.text earlier)
place_fault need earlier x (Some line) = line_fault earlier x.depth x.divided (says x) x.verdict
