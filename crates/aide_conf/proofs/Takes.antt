-- What is taken where a line says something.
use Rattle.std.proofs.Common.{rules, ℕ, ◌≡◌, ◌≤◌, ◌<◌, Bool, true, false, List, [], length, refl, sym, ap, subst, ◌∙◌}
use Rattle.std.proofs.Common.{arith, Option, Some, None, Result, Ok, Err, inl, inr}
use Rattle.std.specs.Prelude.{if◌then◌else◌, nat_lt, OnOk, IfErr}
use Rattle.std.specs.Option.{option_or}
use Rattle.std.specs.FinMap.{insert, remove}
use Rattle.std.proofs.lemmas.Bool.Decides.{nat_tests}
use Rattle.aide_attr.specs.declared.set.AttrSet.{AttrSet}
use Rattle.aide_attr.specs.declared.level.Level.{Level}
use Rattle.aide_attr.specs.declared.expression.ExprFault.{ExprFault}
use Rattle.aide_attr.specs.Groups.{names_of, meaning_of}
use Rattle.aide_attr.specs.Expression.{IsMeaning, IsFault}
use Rattle.aide_attr.specs.Name.{is_word}
use Rattle.aide_conf.specs.declared.fault.ConfFaultKind.{ConfFaultKind}
use Rattle.aide_conf.specs.declared.fault.ConfFaultKind.TheVariants.{BadDirective, BadName, LineTooLong, ValueTooLong}
use Rattle.aide_conf.specs.declared.fault.ConfFaultKind.TheVariants.{TooMany, Memory}
use Rattle.aide_conf.specs.declared.option_kind.Side.{Side}
use Rattle.aide_conf.specs.declared.options.Switch.{Switch}
use Rattle.aide_conf.specs.declared.options.AttrList.{AttrList}
use Rattle.aide_conf.specs.declared.builder.SettingsBuilder.{SettingsBuilder}
use Rattle.aide_conf.specs.Effect.{Effect, Nothing, Faulty, NamesDatabase, SetsLevel, SetsSwitch, SetsAttributes}
use Rattle.aide_conf.specs.Effect.{EndsOptions, DefinesGroup, DefinesVariable, DropsVariable, OpensBlock, DividesBlock}
use Rattle.aide_conf.specs.Effect.{ClosesBlock, is_skipped, expanded_effect, kept_effect}
use Rattle.std.specs.Borrow.{Bor}
use Rattle.aide_conf.specs.declared.directive.Directive.{Directive}
use Rattle.aide_conf.specs.declared.blocks.Frame.{Frame}
use Rattle.aide_conf.specs.code.Stack.{top_used, top_divided}
use Rattle.aide_conf.specs.code.Replacing.{expansion_after}
use Rattle.aide_conf.specs.Directive.{directive_effect, directive_text, set_effect, unset_effect}
use Rattle.aide_conf.specs.code.Returned.{as_lists}
use Rattle.aide_conf.specs.Marks.{Marked}
use Rattle.aide_conf.specs.MarkedGroups.{set_meant, meaning_after, is_too_many}
use Rattle.aide_conf.specs.MarkedVariables.{value}
use Rattle.aide_conf.specs.code.PlaceFault.{line_fault, verdict_fault}
use Rattle.aide_conf.specs.MarkedGroups.{IsJudgedWell, expression_in}
use Rattle.aide_conf.specs.code.Variables.{values_of}
use Rattle.aide_attr.specs.NameMap.{HasSpace, IsFull}
use Rattle.aide_conf.specs.code.Builder.{IsBuiltFrom, TakesEffect, IsAnswered, unless_fixed, with_level, with_switch}
use Rattle.aide_conf.specs.code.Builder.{with_attrs, NamesPath, HasNewGroup, IsMisjudged, HasNoRoom}
use Rattle.aide_conf.proofs.Steps.{options_tell, options_turn, options_list}
use Rattle.aide_conf.proofs.Built.{SetsOnlyVariables, SetsNone, built_same, built_set, built_unset, built_option}
use Rattle.aide_conf.proofs.Built.{built_fixed, built_named, built_defined, few, many, looks}
use Rattle.aide_conf.proofs.VariableSteps.{space_left, no_space}

module _ {A : Type 0} (E : Type 0) (earlier : List Marked) (depth : ℕ) (divided : Bool) (p : SettingsBuilder A)
    (s : IsBuiltFrom earlier p) where
  abbrev Taken : Effect → SettingsBuilder A → Result E ConfFaultKind → Type 0
  Taken r q result = TakesEffect {E = E} earlier depth divided r q result

  -- ---- effects without an expression

  pub faulty : (kind : ConfFaultKind) (q : SettingsBuilder A) → Taken (Faulty kind) q (Err kind)
  faulty kind q = inl (None, refl, refl)

  pub nothing : (u : E) → Taken Nothing p (Ok u)
  nothing u = (
    None,
    refl,
    refl,
    λ x e w. built_same earlier x p s Nothing e
        (record { group = refl; fixing = refl; level = refl; switch = λ t. refl; attrs = λ l v. refl; path = λ d. refl })
        (record { value = λ n. refl; name = refl }),
  )

  pub sets_level : (u : E) (l : Level) → Taken (SetsLevel l) (unless_fixed p (with_level l p.options)) (Ok u)
  sets_level u l = (
    None,
    refl,
    refl,
    λ x e w. built_option earlier x p s (SetsLevel l) (with_level l p.options) e refl refl refl refl
        (record { value = λ n. refl; name = refl }) (λ h. options_tell earlier x p.options h l e),
  )

  pub turns : (u : E) (t : Switch) (b : Bool)
      → Taken (SetsSwitch t b) (unless_fixed p (with_switch t b p.options)) (Ok u)
  turns u t b = (
    None,
    refl,
    refl,
    λ x e w. built_option earlier x p s (SetsSwitch t b) (with_switch t b p.options) e refl refl refl refl
        (record { value = λ n. refl; name = refl }) (λ h. options_turn earlier x p.options h t b e),
  )

  pub fixes_here : (u : E) → Taken EndsOptions (record p { fixed = true }) (Ok u)
  fixes_here u = (None, refl, refl, λ x e w. built_fixed earlier x p s e)

  names_path : (u : E) (d : Side) (path : List ℕ) (q : SettingsBuilder A) → NamesPath d path p q
      → Taken (NamesDatabase d path) q (Ok u)
  names_path u d path q h = (None, refl, refl, λ x e w. built_named earlier x p s d path q e h)

  pub path_taken : (d : Side) (path : List ℕ) (q : SettingsBuilder A) (result : Result E ConfFaultKind)
      → OnOk result (NamesPath d path p q) → IfErr result (λ kind. kind ≡ Memory)
      → Taken (NamesDatabase d path) q result
  path_taken d path q (Ok u) named starved = names_path u d path q named
  path_taken d path q (Err kind) named starved = inr starved

  -- ---- expressions

  meant : (expression : List ℕ) (set : AttrSet) → IsMeaning (meaning_of (names_of p.groups)) expression set
      → IsMeaning (meaning_after earlier) expression set
  meant expression set h = subst (λ z. IsMeaning z expression set) (looks earlier (names_of p.groups) s.groups) h

  pub lists : (u : E) (l : AttrList) (expression : List ℕ) (set : AttrSet)
      → IsMeaning (meaning_of (names_of p.groups)) expression set
      → Taken (SetsAttributes l expression) (unless_fixed p (with_attrs l set p.options)) (Ok u)
  lists u l expression set m = (
    Some (Ok set),
    meant expression set m,
    refl,
    λ x e w. built_option earlier x p s (SetsAttributes l expression) (with_attrs l set p.options) e refl refl refl refl
        (record { value = λ n. refl; name = refl })
        (λ h. options_list earlier x p.options h l expression set e (ap set_meant w)),
  )

  misjudged : (r : Effect) (expression : List ℕ) → expression_in r ≡ Some expression
      → ((v : Option (Result AttrSet ExprFault)) (k : ConfFaultKind) → verdict_fault v ≡ Some k → line_fault earlier depth divided r v
      ≡ Some k)
      → (kind : ConfFaultKind) (q : SettingsBuilder A) → IsMisjudged (meaning_of (names_of p.groups)) expression kind
      → Taken r q (Err kind)
  misjudged r expression is_in fails kind q m =
      let v = Some (Err m.0) in
      let judged = subst (λ z. IsFault z expression m.0) (looks earlier (names_of p.groups) s.groups) m.1 in
      inl (v, subst (λ z. IsJudgedWell (meaning_after earlier) z v) (sym is_in) judged, fails v kind m.2)

  pub lists_misjudged : (l : AttrList) (expression : List ℕ) (kind : ConfFaultKind) (q : SettingsBuilder A)
      → IsMisjudged (meaning_of (names_of p.groups)) expression kind → Taken (SetsAttributes l expression) q (Err kind)
  lists_misjudged l expression = misjudged (SetsAttributes l expression) expression refl (λ v k h. h)

  pub defines_misjudged : (name expression : List ℕ) (kind : ConfFaultKind) (q : SettingsBuilder A)
      → IsMisjudged (meaning_of (names_of p.groups)) expression kind → Taken (DefinesGroup name expression) q (Err kind)
  defines_misjudged name expression = misjudged (DefinesGroup name expression) expression refl
      (λ v k h. ap (λ z. option_or z (if is_too_many earlier name then Some TooMany else None)) h)

  pub defines : (u : E) (name expression : List ℕ) (set : AttrSet) (q : SettingsBuilder A)
      → IsMeaning (meaning_of (names_of p.groups)) expression set → HasNewGroup name set p q
      → Taken (DefinesGroup name expression) q (Ok u)
  defines u name expression set q m h = (
    Some (Ok set),
    meant expression set m,
    ap (λ z. if z then Some TooMany else None) (few earlier (names_of p.groups) s.groups name h.space),
    λ x e w. built_defined earlier x p s name expression set q e (ap set_meant w) h,
  )

  pub undefined : (name expression : List ℕ) (set : AttrSet) (kind : ConfFaultKind) (q : SettingsBuilder A)
      → IsMeaning (meaning_of (names_of p.groups)) expression set → HasNoRoom name p kind
      → Taken (DefinesGroup name expression) q (Err kind)
  undefined name expression set kind q m (inl h) =
      inl (
        Some (Ok set),
        meant expression set m,
        ap (λ z. if z then Some TooMany else None)
            (many earlier (names_of p.groups) s.groups name h.1) ∙ ap Some (sym h.0),
      )
  undefined name expression set kind q m (inr h) = inr h

  pub group_taken : (name expression : List ℕ) (set : AttrSet) (q : SettingsBuilder A) (result : Result E ConfFaultKind)
      → IsMeaning (meaning_of (names_of p.groups)) expression set → OnOk result (HasNewGroup name set p q)
      → IfErr result (λ kind. HasNoRoom name p kind) → Taken (DefinesGroup name expression) q result
  group_taken name expression set q (Ok u) m defined refused = defines u name expression set q m defined
  group_taken name expression set q (Err kind) m defined refused = undefined name expression set kind q m refused

  -- ---- variables

  set_well : (name value : List ℕ) → is_word name ≡ true → (b : Bool) → nat_lt 4096 (length value) ≡ b
      → set_effect name value ≡ (if b then Faulty ValueTooLong else DefinesVariable name value)
  set_well name value e b f = search (rules)

  pub set_too_long : (name value : List ℕ) (q : SettingsBuilder A) → is_word name ≡ true → 4096 < length value
      → Taken (set_effect name value) q (Err ValueTooLong)
  set_too_long name value q e l = search (rules, nat_tests, set_well, faulty)

  pub sets : (u : E) (name value : List ℕ) (q : SettingsBuilder A) → is_word name ≡ true → length value ≤ 4096
      → HasSpace (values_of p.variables) name
      → values_of q.variables ≡ insert (values_of p.variables) name value → q ≡ record p { variables = q.variables }
      → Taken (set_effect name value) q (Ok u)
  sets u name value q e l space t k =
      let f : nat_lt 4096 (length value) ≡ false = grind (arith, nat_tests) in
      subst (λ r. Taken r q (Ok u)) (sym (set_well name value e false f)) (
        None,
        refl,
        ap (λ z. if z then Some TooMany else None) (space_left earlier (values_of p.variables) s.variables name space),
        λ x h w. built_set earlier x p s name value q h t k,
      )

  pub no_space_to_set : (name value : List ℕ) (q : SettingsBuilder A) → is_word name ≡ true → length value ≤ 4096
      → IsFull (values_of p.variables) name → Taken (set_effect name value) q (Err TooMany)
  no_space_to_set name value q e l full =
      let f : nat_lt 4096 (length value) ≡ false = grind (arith, nat_tests) in
      subst (λ r. Taken r q (Err TooMany)) (sym (set_well name value e false f))
      (inl (None, refl, ap (λ z. if z then Some TooMany else None) (no_space earlier (values_of p.variables) s.variables name full)))

  pub unsets : (u : E) (name : List ℕ) (q : SettingsBuilder A) → is_word name ≡ true → values_of q.variables
      ≡ remove (values_of p.variables) name → q ≡ record p { variables = q.variables } → Taken (unset_effect name) q (Ok u)
  unsets u name q e t k = subst (λ r. Taken r q (Ok u)) (sym (ap (λ z. if z then DropsVariable name else Faulty BadName) e))
      (None, refl, refl, λ x h w. built_unset earlier x p s name q h t k)

  -- ---- blocks

  unchanged : (r : Effect) → SetsOnlyVariables r → SetsNone r → expression_in r ≡ None → (u : E)
      → line_fault earlier depth divided r None ≡ None → Taken r p (Ok u)
  unchanged r q n e u f = (
    None,
    subst (λ z. IsJudgedWell (meaning_after earlier) z None) (sym e) refl,
    f,
    λ x h w. built_same earlier x p s r h q n,
  )

  answered : (r : Effect) → SetsOnlyVariables r → SetsNone r → expression_in r ≡ None → (result : Result E ConfFaultKind)
      → IsAnswered (line_fault earlier depth divided r None) result → Taken r p result
  answered r q n e (Ok u) h = unchanged r q n e u h
  answered r q n e (Err kind) (inl h) = inl (None, subst (λ z. IsJudgedWell (meaning_after earlier) z None) (sym e) refl, h)
  answered r q n e (Err kind) (inr h) = inr h

  pub answered_open : (good : Bool) (result : Result E ConfFaultKind)
      → IsAnswered (line_fault [] depth divided (OpensBlock good) None) result → Taken (OpensBlock good) p result
  answered_open good = search (rules, answered)

  pub answered_other : (used : Bool) (result : Result E ConfFaultKind)
      → IsAnswered (line_fault [] depth divided (if used then Faulty BadDirective else OpensBlock true) None) result
      → Taken (if used then Faulty BadDirective else OpensBlock true) p result
  answered_other true (Ok u) h = let bad : Some BadDirective ≡ None = h in cc
  answered_other true (Err k) (inl h) = search (rules, faulty)
  answered_other true (Err k) (inr h) = inr h
  answered_other false result h = answered_open true result h

  pub answered_divide : (result : Result E ConfFaultKind)
      → IsAnswered (line_fault [] depth divided DividesBlock None) result → Taken DividesBlock p result
  answered_divide = search (rules, answered)

  pub answered_close : (result : Result E ConfFaultKind)
      → IsAnswered (line_fault [] depth divided ClosesBlock None) result → Taken ClosesBlock p result
  answered_close = search (rules, answered)

  -- what is refused or has no effect
  pub refused_if : (b : Bool) (kind : ConfFaultKind) (result : Result E ConfFaultKind)
      → IsAnswered (if b then Some kind else None) result → Taken (if b then Faulty kind else Nothing) p result
  refused_if true kind (Ok u) h = let bad : Some kind ≡ None = h in cc
  refused_if true kind (Err k) (inl h) = let e : kind ≡ k = cc in subst (λ z. Taken (Faulty kind) p (Err z)) e (faulty kind p)
  refused_if false kind (Ok u) h = nothing u
  refused_if false kind (Err k) (inl h) = let bad : None ≡ Some k = h in cc
  refused_if _ kind (Err k) (inr h) = inr h

  -- ---- expanded lines

  pub skipped : (u : E) (out : List ℕ) → is_skipped out ≡ true → Taken (expanded_effect out) p (Ok u)
  skipped u out e = subst (λ r. Taken r p (Ok u))
      (sym (ap (λ z. if z then Nothing else if nat_lt 65536 (length out) then Faulty LineTooLong else kept_effect out) e)) (nothing u)

  not_skipped : (out : List ℕ) (b : Bool) → is_skipped out ≡ false → nat_lt 65536 (length out) ≡ b
      → expanded_effect out ≡ (if b then Faulty LineTooLong else kept_effect out)
  not_skipped out b e f = search (rules)

  pub too_long : (out : List ℕ) (q : SettingsBuilder A) → is_skipped out ≡ false → nat_lt 65536 (length out) ≡ true
      → Taken (expanded_effect out) q (Err LineTooLong)
  too_long out q e f = subst (λ r. Taken r q (Err LineTooLong)) (sym (not_skipped out true e f)) (faulty LineTooLong q)

  pub kept_line : (out bytes : List ℕ) (r : Effect) (q : SettingsBuilder A) (result : Result E ConfFaultKind) → bytes ≡ out
      → is_skipped out ≡ false → nat_lt 65536 (length out) ≡ false → r ≡ kept_effect bytes
      → Taken r q result → Taken (expanded_effect out) q result
  kept_line out bytes r q result b e f k t = subst (λ z. Taken z q result) (k ∙ ap kept_effect b ∙ sym (not_skipped out false e f)) t

-- what a directive of the code says
pub by_directive : {A : Type 0} (earlier : List Marked) (fs : List Frame) (d e : Directive (Bor (List ℕ))) (r : Effect)
    (q : SettingsBuilder A) (result : Result (Unit {0}) ConfFaultKind)
    → d ≡ e
    → r ≡ directive_effect (top_used fs) (as_lists e) (expansion_after (value earlier) 0 (directive_text [] (as_lists e)))
    → TakesEffect {E = Unit {0}} earlier (length fs) (top_divided fs) r q result
    → TakesEffect {E = Unit {0}} earlier (length fs) (top_divided fs)
    (directive_effect (top_used fs) (as_lists d) (expansion_after (value earlier) 0 (directive_text [] (as_lists d)))) q result
by_directive earlier fs d e r q result h k t = search rules
