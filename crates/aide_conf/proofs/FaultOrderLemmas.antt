-- The first fault in the order that a place has is the fault of the place.
use Rattle.std.proofs.Common.{rules, ℕ, ◌≡◌, Bool, true, false, cond, not, ◌&&◌, ◌||◌, List, [], length, refl, ap}
use Rattle.std.proofs.Common.{◌∙◌, subst, Option, Some, None, Result, Ok, Err, nat_lt}
use Rattle.std.specs.Prelude.{◌==◌, nat_le, find, is_none, unwrap_or}
use Rattle.std.specs.Option.{option_or}
use Rattle.aide_attr.specs.declared.attr.Attr.{Attr}
use Rattle.aide_attr.specs.declared.set.AttrSet.{AttrSet}
use Rattle.aide_attr.specs.declared.expression.ExprFault.{ExprFault}
use Rattle.aide_attr.specs.declared.expression.ExprFault.TheVariants as expression
use Rattle.aide_attr.specs.declared.level.Level.{Level}
use Rattle.aide_attr.specs.Name.{is_word}
use Rattle.aide_conf.specs.declared.fault.ConfText.{ConfText}
use Rattle.aide_conf.specs.declared.fault.ConfText.TheVariants.{Before}
use Rattle.aide_conf.specs.declared.fault.ConfFaultKind.{ConfFaultKind}
use Rattle.aide_conf.specs.declared.fault.ConfFaultKind.TheVariants as faults
use Rattle.aide_conf.specs.declared.task.Need.{Need}
use Rattle.aide_conf.specs.declared.task.Need.TheVariants.{Check, Compare}
use Rattle.aide_conf.specs.declared.option_kind.Side.{Side}
use Rattle.aide_conf.specs.declared.option_kind.Side.TheVariants.{Old, New}
use Rattle.aide_conf.specs.declared.options.Switch.{Switch}
use Rattle.aide_conf.specs.declared.option_kind.OptionKind.{OptionKind}
use Rattle.aide_conf.specs.declared.option_kind.OptionKind.TheVariants as kinds
use Rattle.aide_conf.specs.Cutting.{strip}
use Rattle.aide_conf.specs.Limits.{longest_line, longest_value, deepest}
use Rattle.aide_conf.specs.Effect.{Effect, Nothing, Faulty, DefinesVariable, DropsVariable, DefinesGroup, EndsOptions}
use Rattle.aide_conf.specs.Effect.{is_skipped}
use Rattle.aide_conf.specs.Effect.{assigned, cut_effect, kept_effect, expanded_effect, value_effect}
use Rattle.aide_conf.specs.Effect.{path_effect, level_effect, switch_effect}
use Rattle.aide_conf.specs.declared.directive.Directive.{Directive}
use Rattle.aide_conf.specs.declared.directive.Directive.TheVariants.{Define, Undef, IfDef, IfNotDef}
use Rattle.aide_conf.specs.declared.directive.Directive.TheVariants.{Else, EndIf, Omitted}
use Rattle.aide_conf.specs.declared.directive.Directive.TheVariants.{Unknown}
use Rattle.aide_conf.specs.Directive.{directive_of, directive_effect, line_effect}
use Rattle.aide_conf.specs.Marks.{Marked, says, line_says}
use Rattle.aide_conf.specs.MarkedGroups.{expression_in, meaning_after, is_too_many, IsJudgedWell}
use Rattle.aide_conf.specs.code.PlaceFault.{verdict_fault, fault_unless, line_fault, end_fault, place_fault}
use Rattle.aide_conf.specs.MarkedVariables.{is_one_variable_more}
use Rattle.aide_conf.specs.RightMarks.{IsMarkedWell}
use Rattle.aide_conf.specs.FaultOrder.{fault_at, fault_order, has_fault, place_has, line_has, is_wrong, assignment_of}
use Rattle.aide_conf.specs.FaultOrder.{assignment_in, assignment_by, assignment_to, Assignment, Silent, has_bad_group}
use Rattle.aide_conf.specs.FaultOrder.{is_nameless, has_bad_value, is_left_out_by, has_bad_url, has_long_path}
use Rattle.aide_conf.specs.FaultOrder.{ToOption, is_no_word_of, is_option_left_out}
use Rattle.aide_conf.specs.FaultOrder.{has_unknown_name, has_bad_form, has_too_many_groups, lacks_database, is_too_long_text}

abbrev Look : Type 0
Look = List ℕ → Option (Attr → Bool)

abbrev Verdict : Type 0
Verdict = Option (Result AttrSet ExprFault)

-- the verdict on a line is right, by what the line says
abbrev Judged : Look → Effect → Verdict → Type 0
Judged look r v = IsJudgedWell look (expression_in r) v

-- the first in the order that passes
abbrev first_by : (ConfFaultKind → Bool) → Option ConfFaultKind
first_by p =
    cond (p faults.LineTooLong) (Some faults.LineTooLong) (cond (p faults.BadDirective) (Some faults.BadDirective)
    (cond (p faults.TooDeep) (Some faults.TooDeep) (cond (p faults.StrayElse) (Some faults.StrayElse)
    (cond (p faults.StrayEndif) (Some faults.StrayEndif) (cond (p faults.BadName) (Some faults.BadName)
    (cond (p faults.BadLine) (Some faults.BadLine) (cond (p faults.BadValue) (Some faults.BadValue)
    (cond (p faults.LeftOut) (Some faults.LeftOut) (cond (p faults.BadUrl) (Some faults.BadUrl)
    (cond (p faults.ValueTooLong) (Some faults.ValueTooLong) (cond (p faults.UnknownAttribute) (Some faults.UnknownAttribute)
    (cond (p faults.BadExpression) (Some faults.BadExpression) (cond (p faults.TooMany) (Some faults.TooMany)
    (cond (p faults.MissingEndif) (Some faults.MissingEndif) (cond (p faults.NoOldDatabase) (Some faults.NoOldDatabase)
    (cond (p faults.NoNewDatabase) (Some faults.NoNewDatabase) None))))))))))))))))

found : (p : ConfFaultKind → Bool) → find p fault_order ≡ first_by p
unfolding fault_order
found p = refl

-- the faults of an expression, and one more
abbrev last : Verdict → Bool → Option ConfFaultKind
last v many =
    cond (has_unknown_name v) (Some faults.UnknownAttribute)
    (cond (has_bad_form v) (Some faults.BadExpression) (cond many (Some faults.TooMany) None))

-- ---- assignments

-- the faults of an assignment
abbrev of_assignment : List Marked → Verdict → Assignment → Option ConfFaultKind
of_assignment earlier v a =
    cond (has_bad_group a) (Some faults.BadName) (cond (is_nameless a) (Some faults.BadLine)
    (cond (has_bad_value a) (Some faults.BadValue) (cond (is_left_out_by a) (Some faults.LeftOut)
    (cond (has_bad_url a) (Some faults.BadUrl)
    (cond (has_long_path a) (Some faults.ValueTooLong) (last v (has_too_many_groups earlier a)))))))

verdict_first : (v : Verdict) (many : Bool) → option_or (verdict_fault v) (cond many (Some faults.TooMany) None) ≡ last v many
verdict_first None many = refl
verdict_first (Some (Ok s)) many = refl
verdict_first (Some (Err (expression.UnknownName i))) many = refl
verdict_first (Some (Err (expression.BadExpression i))) many = refl

verdict_alone : (v : Verdict) → verdict_fault v ≡ last v false
verdict_alone None = refl
verdict_alone (Some (Ok s)) = refl
verdict_alone (Some (Err (expression.UnknownName i))) = refl
verdict_alone (Some (Err (expression.BadExpression i))) = refl

module _ (look : Look) (earlier : List Marked) (depth : ℕ) (divided : Bool) (v : Verdict) where
  -- what is said by a line has this fault, or none
  abbrev Tells : Effect → Option ConfFaultKind → Type 0
  Tells r fault = IsJudgedWell look (expression_in r) v → line_fault earlier depth divided r v ≡ fault

  group_told : (name value : List ℕ) (good : Bool)
      → line_fault earlier depth divided (cond good (DefinesGroup name value) (Faulty faults.BadName)) v
      ≡ cond (not good) (Some faults.BadName) (last v (is_too_many earlier name))
  group_told name value false = refl
  group_told name value true = verdict_first v (is_too_many earlier name)

  path_told : (d : Side) (o : Option (List ℕ)) → Tells (path_effect d o)
      (cond (is_none o) (Some faults.BadUrl)
      (cond (nat_lt longest_value (length (unwrap_or o []))) (Some faults.ValueTooLong) (last v false)))
  path_told d None j = refl
  path_told d (Some p) j = search rules

  url_told : (d : Side) (o : Option (List ℕ)) (left : Bool) → Tells (cond left (Faulty faults.LeftOut) (path_effect d o))
      (cond left (Some faults.LeftOut) (cond (is_none o) (Some faults.BadUrl)
      (cond (nat_lt longest_value (length (unwrap_or o []))) (Some faults.ValueTooLong) (last v false))))
  url_told d o true j = refl
  url_told d o false j = path_told d o j

  level_told : (o : Option Level) → Tells (level_effect o) (cond (is_none o) (Some faults.BadValue) (last v false))
  level_told None j = refl
  level_told (Some l) j = let none : v ≡ None = j in rw none refl

  switch_told : (s : Switch) (o : Option Bool) → Tells (switch_effect s o) (cond (is_none o) (Some faults.BadValue) (last v false))
  switch_told s None j = refl
  switch_told s (Some b) j = let none : v ≡ None = j in rw none refl

  format_told : (json plain : Bool) → Tells (cond json (Faulty faults.LeftOut) (cond plain Nothing (Faulty faults.BadValue)))
      (cond (not (json || plain)) (Some faults.BadValue) (cond json (Some faults.LeftOut) (last v false)))
  format_told true plain j = refl
  format_told false true j = let none : v ≡ None = j in rw none refl
  format_told false false j = refl

  stdout_told : (b : Bool) → Tells (cond b EndsOptions Nothing) (last v false)
  stdout_told true j = let none : v ≡ None = j in rw none refl
  stdout_told false j = let none : v ≡ None = j in rw none refl

  -- the faults of an option with a value that is not empty
  abbrev of_value : Verdict → OptionKind → List ℕ → Option ConfFaultKind
  of_value v o value =
      cond (is_no_word_of o value) (Some faults.BadValue) (cond (is_option_left_out o value) (Some faults.LeftOut)
      (cond (has_bad_url (ToOption o value)) (Some faults.BadUrl)
      (cond (has_long_path (ToOption o value)) (Some faults.ValueTooLong) (last v false))))

  value_told : (o : OptionKind) (value : List ℕ) → Tells (value_effect o value) (of_value v o value)
  unfolding value_effect
  value_told (kinds.Url d) value j = search (rules, url_told)
  value_told kinds.Level value j = search (rules, level_told)
  value_told (kinds.Flag s) value j = search (rules, switch_told)
  value_told (kinds.Attributes l) value j = verdict_alone v
  value_told kinds.ReportUrl value j = search (rules, stdout_told)
  value_told kinds.ReportFormat value j = search (rules, format_told)
  value_told kinds.Accepted value j = let none : v ≡ None = j in rw none refl
  value_told kinds.Older value j = refl

  option_told : (o : OptionKind) (value : List ℕ) (empty : Bool) → Tells (cond empty (Faulty faults.BadValue) (value_effect o value))
      (cond (empty || is_no_word_of o value) (Some faults.BadValue) (cond (is_option_left_out o value) (Some faults.LeftOut)
      (cond (has_bad_url (ToOption o value)) (Some faults.BadUrl)
      (cond (has_long_path (ToOption o value)) (Some faults.ValueTooLong) (last v false)))))
  option_told o value true j = refl
  option_told o value false j = value_told o value j

  assigned_told : (o : Option OptionKind) (name value : List ℕ)
      → Tells (assigned o name value) (of_assignment earlier v (assignment_to o name value))
  assigned_told None name value j = search (rules, group_told)
  assigned_told (Some o) name value j = search (rules, option_told)

  cut_told : (o : Option (List ℕ)) (name : List ℕ) → Tells (cut_effect o name) (of_assignment earlier v (assignment_by name o))
  cut_told None name j = refl
  cut_told (Some value) name j = search (rules, assigned_told)

  text_by : (o : Option (List ℕ)) (name : List ℕ) (skipped long selects : Bool)
      → Tells (cond skipped Nothing (cond long (Faulty faults.LineTooLong) (cond selects Nothing (cut_effect o name))))
      (cond (not skipped && long) (Some faults.LineTooLong)
      (of_assignment earlier v (cond (skipped || selects) Silent (assignment_by name o))))
  text_by o name true long selects j = let none : v ≡ None = j in rw none refl
  text_by o name false true selects j = refl
  text_by o name false false true j = let none : v ≡ None = j in rw none refl
  text_by o name false false false j = cut_told o name j

  text_told : (e : List ℕ) → Tells (expanded_effect e)
      (cond (is_too_long_text None e) (Some faults.LineTooLong) (of_assignment earlier v (assignment_in e)))
  unfolding kept_effect
  text_told e j = search (rules, text_by)

  -- ---- directives

  set_told : (n e : List ℕ) (word long : Bool)
      → Tells (cond word (cond long (Faulty faults.ValueTooLong) (DefinesVariable n e)) (Faulty faults.BadName))
      (cond (not word || false) (Some faults.BadName)
      (cond (long || false) (Some faults.ValueTooLong) (last v (is_one_variable_more earlier n || false))))
  set_told n e false long j = refl
  set_told n e true true j = refl
  set_told n e true false j = search rules

  unset_told : (n : List ℕ) (word : Bool) → Tells (cond word (DropsVariable n) (Faulty faults.BadName))
      (cond (not word || false) (Some faults.BadName) (last v false))
  unset_told n false j = refl
  unset_told n true j = let none : v ≡ None = j in rw none refl

open_told : (deep word : Bool) → cond deep (Some faults.TooDeep) (fault_unless word faults.BadName)
    ≡ cond deep (Some faults.TooDeep) (cond (not word || false) (Some faults.BadName) None)
open_told true word = refl
open_told false true = refl
open_told false false = refl

module _ (look : Look) (earlier : List Marked) (x : Marked) (line : List ℕ) where
  -- what the line says has this fault, or none
  abbrev Has : Effect → Option ConfFaultKind → Type 0
  Has r fault = Tells look earlier x.depth x.divided x.verdict r fault

  -- the first fault of a line that is not skipped
  abbrev first_in : Bool → Option (Directive (List ℕ)) → Option ConfFaultKind
  first_in used item = first_by (is_wrong earlier x line item (assignment_of used item x.expanded))

  -- a line in an unused part
  unused_told : (item : Option (Directive (List ℕ))) → x.used ≡ false
      → Has (directive_effect false item x.expanded) (first_in false item)
  unused_told (Some (Omitted true)) used j = rw used refl
  unused_told (Some (Unknown true)) used j = rw used refl
  unused_told _ used j = let none : x.verdict ≡ None = j in rw (used, none) refl

  -- a line in a used part that is not too long before its expansion
  used_told : (item : Option (Directive (List ℕ))) → x.used ≡ true → nat_lt longest_line (length line) ≡ false
      → Has (directive_effect true item x.expanded) (first_in true item)
  used_told (Some (Define n v)) used long j = rw (used, long)
      (set_told look earlier x.depth x.divided x.verdict n x.expanded (is_word n) (nat_lt longest_value (length x.expanded)) j)
  used_told (Some (Undef n)) used long j = rw (used, long) (unset_told look earlier x.depth x.divided x.verdict n (is_word n) j)
  used_told (Some (IfDef n)) used long j =
      let none : x.verdict ≡ None = j in rw (used, long, none) (open_told (nat_le deepest x.depth) (is_word n))
  used_told (Some (IfNotDef n)) used long j =
      let none : x.verdict ≡ None = j in rw (used, long, none) (open_told (nat_le deepest x.depth) (is_word n))
  used_told (Some Else) used long j = let none : x.verdict ≡ None = j in rw (used, long, none) refl
  used_told (Some EndIf) used long j = let none : x.verdict ≡ None = j in rw (used, long, none) refl
  used_told (Some _) used long j = rw (used, long) refl
  used_told None used long j = rw (used, long) (text_told look earlier x.depth x.divided x.verdict (strip x.expanded) j)

  -- ---- lines and ends

  by_used : (item : Option (Directive (List ℕ))) (used long : Bool) → x.used ≡ used → nat_lt longest_line (length line) ≡ long
      → Has (cond (used && long) (Faulty faults.LineTooLong) (directive_effect used item x.expanded)) (first_in used item)
  by_used item true true used long j = rw (used, long) refl
  by_used item true false used long j = used_told item used long j
  by_used item false long used e j = unused_told item used j

  by_skipped : (item : Option (Directive (List ℕ))) (skipped : Bool)
      → Has (cond skipped Nothing (cond (x.used && nat_lt longest_line (length line)) (Faulty faults.LineTooLong)
      (directive_effect x.used item x.expanded)))
      (first_by (λ kind. not skipped && is_wrong earlier x line item (assignment_of x.used item x.expanded) kind))
  by_skipped item true j = refl
  by_skipped item false j = search (rules, by_used)

  line_told : Has (line_effect x.used line x.expanded) (first_by (line_has earlier x line))
  unfolding line_effect
  line_told j = by_skipped (directive_of line) (is_skipped line) j

end_told : (need : Need) (earlier : List Marked) (text : ConfText) (outside : Bool)
    → option_or (cond outside None (Some faults.MissingEndif)) (end_fault need text earlier)
    ≡ cond (not outside) (Some faults.MissingEndif) (cond (lacks_database need text earlier Old) (Some faults.NoOldDatabase)
    (cond (lacks_database need text earlier New) (Some faults.NoNewDatabase) None))
end_told need earlier text false = refl
end_told Check earlier text true = refl
end_told Compare earlier Before true = refl
end_told Compare earlier _ true = refl

says_of : (x : Marked) (o : Option (List ℕ)) → x.place.line ≡ o → says x ≡ line_says o x.used x.expanded
unfolding says
says_of x o e = ap (λ l. line_says l x.used x.expanded) e

place_told : (need : Need) (earlier : List Marked) (x : Marked) (o : Option (List ℕ)) → x.place.line ≡ o
    → IsJudgedWell (meaning_after earlier) (expression_in (says x)) x.verdict
    → place_fault need earlier x o ≡ first_by (place_has need earlier x o)
place_told need earlier x None e j = end_told need earlier x.place.text (x.depth == 0)
place_told need earlier x (Some line) e j =
    let says_it : says x ≡ line_effect x.used line x.expanded = says_of x (Some line) e in
    ap (λ r. line_fault earlier x.depth x.divided r x.verdict) says_it
    ∙ line_told (meaning_after earlier) earlier x line (subst (λ r. Judged (meaning_after earlier) r x.verdict) says_it j)

-- the fault of a place whose marks are right
pub first_of_place : (need : Need) (earlier : List Marked) (x : Marked) → IsMarkedWell earlier x
    → place_fault need earlier x x.place.line ≡ fault_at need earlier x
unfolding fault_at has_fault
first_of_place need earlier x marked = search (rules, place_told, found)
