-- The directive that a line is, if it is one, and what a line says, as functions of its bytes.
use Rattle.std.specs.Prelude.{ℕ, Bool, true, false, not, ◌&&◌, ◌||◌, nat_lt, List, [], length}
use Rattle.std.specs.Prelude.{◌∷◌, Option, Some, None, codes, drop, unwrap_or, if◌then◌else◌}
use Rattle.aide_attr.specs.LookUp.{look_up}
use Rattle.aide_attr.specs.Name.{is_word}
use Rattle.aide_conf.specs.declared.directive.Directive.{Directive}
use Rattle.aide_conf.specs.declared.directive.Directive.TheVariants.{Define, Undef, IfDef, IfNotDef}
use Rattle.aide_conf.specs.declared.directive.Directive.TheVariants.{IfOther, Else, EndIf, Omitted}
use Rattle.aide_conf.specs.declared.directive.Directive.TheVariants.{Unknown}
use Rattle.aide_conf.specs.declared.fault.ConfFaultKind.TheVariants.{BadDirective, LeftOut, BadName}
use Rattle.aide_conf.specs.declared.fault.ConfFaultKind.TheVariants.{LineTooLong, ValueTooLong}
use Rattle.aide_conf.specs.Cutting.{is_blank, strip, bytes_before, bytes_after}
use Rattle.aide_conf.specs.Effect.{same, begins, is_directive, is_omitted, is_skipped}
use Rattle.aide_conf.specs.Effect.{expanded_effect, Effect, Nothing, Faulty, DefinesVariable}
use Rattle.aide_conf.specs.Effect.{DropsVariable, OpensBlock, DividesBlock, ClosesBlock}
use Rattle.aide_conf.specs.Blocks.{BlockRole, Opens, Divides, Closes, Single}
use Rattle.aide_conf.specs.Limits.{longest_line, longest_value, deepest}

-- the bytes after the first blank, without the blanks around them
abbrev pub after_blank : List ℕ → List ℕ
after_blank bs = strip (unwrap_or (bytes_after is_blank bs) [])

-- the directive of an `@@if` with this text after the `not` of its condition
unfoldable pub negated : List ℕ → Directive (List ℕ)
negated rest =
    if same (bytes_before is_blank rest) (codes "defined") then IfNotDef (after_blank rest)
    else IfOther

-- The directive of an `@@if` with this condition.
-- The two that are known are `defined NAME` and `not defined NAME`.
unfoldable pub condition : List ℕ → Directive (List ℕ)
condition rest =
    if same (bytes_before is_blank rest) (codes "defined") then IfDef (after_blank rest)
    else if same (bytes_before is_blank rest) (codes "not") then negated (after_blank rest)
    else IfOther

-- the directives by their words; each is made of the rest of its line
abbrev pub directives : List (List ℕ × (List ℕ → Directive (List ℕ)))
directives =
    (codes "define", λ rest. Define (bytes_before is_blank rest) (after_blank rest))
    ∷ (codes "undef", λ rest. Undef rest)
    ∷ (codes "ifdef", λ rest. IfDef rest)
    ∷ (codes "ifndef", λ rest. IfNotDef rest)
    ∷ (codes "if", λ rest. condition rest)
    ∷ (codes "else", λ rest. Else)
    ∷ (codes "endif", λ rest. EndIf)
    ∷ []

-- the directive with this word, which is or is not one of those above
abbrev pub directive_made : List ℕ → Option (List ℕ → Directive (List ℕ)) → List ℕ
    → Directive (List ℕ)
directive_made w (Some make) rest = make rest
directive_made w None rest =
    if is_omitted w then Omitted (begins w (codes "if")) else Unknown (begins w (codes "if"))

-- the directive of a word and the rest of its line
unfoldable pub directive_by : List ℕ → List ℕ → Directive (List ℕ)
directive_by w rest = directive_made w (look_up directives w) rest

-- the directive that these bytes after `@@` are
abbrev pub read_directive : List ℕ → Directive (List ℕ)
read_directive bs = directive_by (bytes_before is_blank bs) (after_blank bs)

-- the directive that a stripped line is, if it is one
unfoldable pub directive_of : List ℕ → Option (Directive (List ℕ))
directive_of line = if is_directive line then Some (read_directive (drop 2 line)) else None

-- what a line does to the blocks of its text
abbrev pub role_of : Option (Directive (List ℕ)) → BlockRole
role_of (Some (IfDef n)) = Opens
role_of (Some (IfNotDef n)) = Opens
role_of (Some IfOther) = Opens
role_of (Some Else) = Divides
role_of (Some EndIf) = Closes
role_of _ = Single

-- whether an opening line chooses its first part, by a test of which names are defined
abbrev pub directive_chooses : (List ℕ → Bool) → Option (Directive (List ℕ)) → Bool
directive_chooses is_defined (Some (IfDef n)) = is_defined n
directive_chooses is_defined (Some (IfNotDef n)) = not (is_defined n)
directive_chooses _ _ = false

-- the bytes of a line that are expanded: a variable's value, or the whole line if it is no
-- directive
abbrev pub directive_text : List ℕ → Option (Directive (List ℕ)) → List ℕ
directive_text line (Some (Define n v)) = v
directive_text line None = line
directive_text _ _ = []

-- What a line says that sets a variable. A fault of the name comes before a fault of the value's
-- length.
abbrev pub set_effect : List ℕ → List ℕ → Effect
set_effect name value =
    if is_word name
    then (if nat_lt longest_value (length value) then Faulty ValueTooLong
    else DefinesVariable name value)
    else Faulty BadName

-- What a line says that drops a variable. The name has to be a word. It need not be defined.
abbrev pub unset_effect : List ℕ → Effect
unset_effect name = if is_word name then DropsVariable name else Faulty BadName

-- What a line says in a used or an unused part, by its expansion. In an unused part only blocks
-- are followed. Other directives whose words begin with `if` are refused there too.
abbrev pub directive_effect : Bool → Option (Directive (List ℕ)) → List ℕ → Effect
directive_effect used (Some (Define n v)) expanded = if used then set_effect n expanded else Nothing
directive_effect used (Some (Undef n)) expanded = if used then unset_effect n else Nothing
directive_effect used (Some (IfDef n)) expanded = OpensBlock (not used || is_word n)
directive_effect used (Some (IfNotDef n)) expanded = OpensBlock (not used || is_word n)
directive_effect used (Some IfOther) expanded =
    if used then Faulty BadDirective else OpensBlock true
directive_effect used (Some Else) expanded = DividesBlock
directive_effect used (Some EndIf) expanded = ClosesBlock
directive_effect used (Some (Omitted c)) expanded = if used || c then Faulty LeftOut else Nothing
directive_effect used (Some (Unknown c)) expanded =
    if used || c then Faulty BadDirective else Nothing
directive_effect used None expanded = if used then expanded_effect (strip expanded) else Nothing

-- what a stripped line says, by its expansion
unfoldable pub line_effect : Bool → List ℕ → List ℕ → Effect
line_effect used line expanded =
    if is_skipped line then Nothing
    else if used && nat_lt longest_line (length line) then Faulty LineTooLong
    else directive_effect used (directive_of line) expanded

-- Whether memory may be allocated at a line, by its depth in blocks. It may be at an expansion in a
-- used part, and at a line that opens a block.
abbrev pub directive_grows : Bool → ℕ → Option (Directive (List ℕ)) → Bool
directive_grows used depth (Some (Define n v)) = used && is_word n
directive_grows used depth (Some (IfDef n)) = nat_lt depth deepest && (not used || is_word n)
directive_grows used depth (Some (IfNotDef n)) = nat_lt depth deepest && (not used || is_word n)
directive_grows used depth (Some IfOther) = nat_lt depth deepest && not used
directive_grows used depth None = used
directive_grows _ _ _ = false

-- whether memory may be allocated at a stripped line
unfoldable pub line_grows : Bool → ℕ → List ℕ → Bool
line_grows used depth line =
    not (is_skipped line)
    && (not (used && nat_lt longest_line (length line))
    && directive_grows used depth (directive_of line))
