-- What is taken at one place, by what its line says and by the blocks that are open before it.
use Rattle.std.proofs.Common.{rules, ℕ, ◌≡◌, ◌<◌, Bool, true, false, List, [], ◌∷◌, ◌++◌, length, refl, sym, ap, subst}
use Rattle.std.proofs.Common.{◌∙◌, Option, Some, None, Result, Ok, Err, inl, inr}
use Rattle.std.specs.Prelude.{if◌then◌else◌, OnOk, ◌||◌, ◌&&◌, not, nat_lt, ◌==◌, is_none, String, drop}
use Rattle.std.specs.Option.{option_or}
use Rattle.std.proofs.lemmas.Bool.Decides.{nat_tests}
use Rattle.std.proofs.lemmas.Bool.{eqb-true}
use Rattle.aide_attr.specs.declared.set.AttrSet.{AttrSet}
use Rattle.aide_attr.specs.declared.expression.ExprFault.{ExprFault}
use Rattle.aide_conf.specs.declared.task.Need.{Need}
use Rattle.aide_conf.specs.declared.task.Need.TheVariants.{Compare}
use Rattle.aide_conf.specs.declared.fault.ConfText.{ConfText}
use Rattle.aide_conf.specs.declared.fault.ConfText.TheVariants.{Before, After}
use Rattle.aide_conf.specs.declared.fault.ConfFaultKind.{ConfFaultKind}
use Rattle.aide_conf.specs.declared.fault.ConfFaultKind.TheVariants.{StrayElse, StrayEndif, MissingEndif, LineTooLong, Memory}
use Rattle.aide_conf.specs.declared.builder.SettingsBuilder.{SettingsBuilder}
use Rattle.aide_conf.specs.declared.blocks.Frame.{Frame}
use Rattle.std.specs.Borrow.{Bor}
use Rattle.aide_conf.specs.declared.directive.Directive.{Directive}
use Rattle.aide_conf.specs.declared.directive.Directive.TheVariants as code
use Rattle.aide_conf.specs.Cutting.{strip}
use Rattle.aide_conf.specs.Effect.{Effect, Nothing, Faulty, is_skipped, is_directive, expanded_effect}
use Rattle.aide_conf.specs.Directive.{directive_of, read_directive, directive_text, directive_chooses, directive_effect, directive_grows}
use Rattle.aide_conf.specs.Directive.{line_grows, role_of, line_effect}
use Rattle.aide_conf.specs.code.Returned.{as_lists}
use Rattle.aide_conf.specs.Blocks.{Opens, Divides, Closes, Seen, is_single, opens, closes}
use Rattle.aide_conf.specs.code.Stack.{IsOpen, top_used, top_divided, opened, divided_at, closed_at, frames_after}
use Rattle.aide_conf.specs.Expansion.{plain}
use Rattle.aide_conf.specs.code.Replacing.{expansion_after}
use Rattle.aide_conf.specs.Marks.{Marked, says}
use Rattle.aide_conf.specs.MarkedBlocks.{seen, seen_in, is_text}
use Rattle.aide_conf.specs.MarkedGroups.{meaning_after, IsJudgedWell, expression_in}
use Rattle.aide_conf.specs.MarkedVariables.{value, is_defined}
use Rattle.aide_conf.specs.RightMarks.{Grows, IsMarkedWell}
use Rattle.aide_conf.specs.code.PlaceFault.{place_fault, line_fault, end_fault, end_block_fault, missing}
use Rattle.aide_conf.specs.FaultOrder.{fault_at}
use Rattle.aide_conf.proofs.FaultOrderLemmas.{first_of_place}
use Rattle.aide_conf.specs.code.Builder.{IsBuiltFrom, TakesOne, TakesEffect, fault_of, place_at, text_at}
use Rattle.aide_conf.proofs.StackLemmas.{used_right, depth_right, divided_right, single_next, opens_next, divides_next, closes_next}
use Rattle.aide_conf.proofs.ExpansionLemmas.{is_expansion}
use Rattle.aide_conf.proofs.Built.{built_same}
use Rattle.aide_conf.proofs.BoundedLemmas.{not_zero}

abbrev Verdict : Type 0
Verdict = Option (Result AttrSet ExprFault)

-- ---- lines of one text

same_text : (text : ConfText) → is_text text text ≡ true
same_text Before = refl
same_text _ = refl

pub seen_in-more : (text : ConfText) (xs : List Marked) (x : Marked) → x.place.text ≡ text
    → seen_in text (xs ++ x ∷ []) ≡ seen_in text xs ++ seen x ∷ []
seen_in-more text [] x e = ap (λ z. if z then seen x ∷ [] else []) (ap (is_text text) e ∙ same_text text)
seen_in-more text (y ∷ ys) x e = search (rules, seen_in-more text ys x e)

-- ---- the blocks after one more line

module _ (here : List Seen) (fs : List Frame) (o : IsOpen here fs) (earlier : List Marked) (defined : List ℕ → Bool) (out : List ℕ)
    (v : Verdict) where
  divides_well : (x : Seen) → x.role ≡ Divides → (gs : List Frame) → IsOpen here gs
      → (if length gs == 0 || top_divided gs then Some StrayElse else None) ≡ None
      → IsOpen (here ++ x ∷ []) (divided_at gs)
  divides_well x e [] h f = let bad : Some StrayElse ≡ None = f in cc
  divides_well x e (g ∷ gs) h f = search (rules, divides_next, not_zero)

  closes_well : (x : Seen) → x.role ≡ Closes → (gs : List Frame) → IsOpen here gs
      → (if length gs == 0 then Some StrayEndif else None) ≡ None → IsOpen (here ++ x ∷ []) (closed_at gs)
  closes_well x e [] h f = let bad : Some StrayEndif ≡ None = f in cc
  closes_well x e (g ∷ gs) h f = closes_next here g gs x h (ap closes e)

  opens_well : (x : Seen) (first : Bool) → x.role ≡ Opens → x.used ≡ top_used fs → x.first ≡ first
      → IsOpen (here ++ x ∷ []) (opened (top_used fs) first fs)
  opens_well x first e u f = subst (λ z. IsOpen (here ++ x ∷ []) (opened (top_used fs) z fs)) f
      (subst (λ z. IsOpen (here ++ x ∷ []) (opened z x.first fs)) u (opens_next here fs x o (ap opens e) u))

  pub blocks_after : (i : Option (Directive (List ℕ))) (x : Seen) → x.role ≡ role_of i → x.used ≡ top_used fs
      → x.first ≡ directive_chooses defined i
      → line_fault earlier (length fs) (top_divided fs) (directive_effect (top_used fs) i out) v ≡ None
      → IsOpen (here ++ x ∷ []) (frames_after (role_of i) (top_used fs) (directive_chooses defined i) fs)
  blocks_after (Some (code.IfDef n)) x e u f h = opens_well x (defined n) e u f
  blocks_after (Some (code.IfNotDef n)) x e u f h = opens_well x (not (defined n)) e u f
  blocks_after (Some code.IfOther) x e u f h = opens_well x false e u f
  blocks_after (Some code.Else) x e u f h = divides_well x e fs o h
  blocks_after (Some code.EndIf) x e u f h = closes_well x e fs o h
  blocks_after _ x e u f h = single_next here fs x o (ap is_single e)

-- ---- one line

-- a line that is skipped is no directive
not_directive : (bytes : List ℕ) → is_skipped bytes ≡ true → is_directive bytes ≡ false
unfolding is_directive
not_directive [] h = refl
not_directive (b ∷ bs) h = search (rules, eqb-true)

module _ (need : Need) (earlier : List Marked) (text : ConfText) (n : ℕ) (line : List ℕ) (fs : List Frame)
    (o : IsOpen (seen_in text earlier) fs) where
  abbrev out : List ℕ
  out = expansion_after (value earlier) 0 (directive_text line (directive_of line))

  abbrev effect_here : Effect
  effect_here = line_effect (top_used fs) line out

  abbrev fault_here : Verdict → Option ConfFaultKind
  fault_here v = line_fault earlier (length fs) (top_divided fs) effect_here v

  -- the result of what the line says, and of the line
  abbrev Said : {A : Type 0} → Effect → SettingsBuilder A → Result (Unit {0}) ConfFaultKind → Type 0
  Said r q result = TakesEffect {E = Unit {0}} earlier (length fs) (top_divided fs) r q result

  abbrev Taken : {A : Type 0} → SettingsBuilder A → List Frame → Result (Unit {0}) ConfFaultKind → Type 0
  Taken q gs result = TakesOne {E = Unit {0}} need earlier (place_at text n (Some line)) q gs result

  abbrev marked : Verdict → Marked
  marked v = record {
    place = place_at text n (Some line);
    used = top_used fs;
    depth = length fs;
    divided = top_divided fs;
    first = directive_chooses (is_defined earlier) (directive_of line);
    expanded = out;
    verdict = v;
  }

  says-marked : (v : Verdict) → says (marked v) ≡ effect_here
  unfolding says
  says-marked v = refl

  well : (v : Verdict) → IsJudgedWell (meaning_after earlier) (expression_in effect_here) v
      → IsMarkedWell earlier (marked v)
  well v j = record {
    is_used = used_right (seen_in text earlier) fs (seen (marked v)) o refl;
    is_enclosed = depth_right (seen_in text earlier) fs o;
    is_divided = divided_right (seen_in text earlier) fs o;
    is_first = refl;
    is_expanded = is_expansion (value earlier) (directive_text line (directive_of line));
    is_judged = subst (λ z. IsJudgedWell (meaning_after earlier) (expression_in z) v) (sym (says-marked v)) j;
  }

  place_told : (v : Verdict) → place_fault need earlier (marked v) (Some line) ≡ fault_here v
  unfolding says
  place_told v = refl

  fault-marked : (v : Verdict) → IsJudgedWell (meaning_after earlier) (expression_in effect_here) v
      → fault_at need earlier (marked v) ≡ fault_here v
  fault-marked v j = sym (first_of_place need earlier (marked v) (well v j)) ∙ place_told v

  growing : line_grows (top_used fs) (length fs) line ≡ true → Grows earlier (place_at text n (Some line))
  growing g = record {
    used = top_used fs;
    depth = length fs;
    is_used = used_right (seen_in text earlier) fs (seen (marked None)) o refl;
    is_enclosed = depth_right (seen_in text earlier) fs o;
    grows = g;
  }

  -- what is taken where the blocks are right afterwards
  takes_place : {A : Type 0} (gs : List Frame) (q : SettingsBuilder A) (result : Result (Unit {0}) ConfFaultKind)
      → ((v : Verdict) → fault_here v ≡ None → OnOk result (IsOpen (seen_in text earlier ++ seen (marked v) ∷ []) gs))
      → (result ≡ Err Memory → line_grows (top_used fs) (length fs) line ≡ true) → Said effect_here q result
      → Taken q gs result
  takes_place gs q (Ok u) b m t = (
    marked t.0,
    refl,
    well t.0 t.1,
    fault-marked t.0 t.1 ∙ t.2,
    t.3 (marked t.0) (says-marked t.0) refl,
    subst (λ z. IsOpen z gs) (sym (seen_in-more text earlier (marked t.0) refl)) (b t.0 t.2),
  )
  takes_place gs q (Err kind) b m (inl t) = inl (marked t.0, refl, well t.0 t.1, fault-marked t.0 t.1 ∙ t.2)
  takes_place gs q (Err kind) b m (inr t) = inr (t, growing (m (ap Err t)))

  skipped_directive : is_skipped line ≡ true → directive_of line ≡ None
  unfolding directive_of
  skipped_directive h = ap (λ z. if z then Some (read_directive (drop 2 line)) else None) (not_directive line h)

  skipped_says : is_skipped line ≡ true → effect_here ≡ Nothing
  unfolding line_effect
  skipped_says h = rw h refl

  plain_after : directive_of line ≡ None → (v : Verdict) → IsOpen (seen_in text earlier ++ seen (marked v) ∷ []) fs
  plain_after e v = single_next (seen_in text earlier) fs (seen (marked v)) o (ap (λ i. is_single (role_of i)) e)

  -- an empty line or a comment
  pub skipped_line : {A : Type 0} (q : SettingsBuilder A) (u : Unit {0}) → is_skipped line ≡ true
      → Said Nothing q (Ok u) → Taken q fs (Ok u)
  skipped_line q u h t = takes_place fs q (Ok u) (λ v f. plain_after (skipped_directive h) v)
      (λ e. let bad : Ok u ≡ Err Memory = e in cc) (subst (λ r. Said r q (Ok u)) (sym (skipped_says h)) t)

  long_says : is_skipped line ≡ false → (top_used fs && nat_lt 65536 (length line)) ≡ true
      → effect_here ≡ Faulty LineTooLong
  unfolding line_effect
  long_says h l = rw (h, l) refl

  -- a used line that is too long
  pub long_line : {A : Type 0} (gs : List Frame) (q : SettingsBuilder A) → is_skipped line ≡ false
      → (top_used fs && nat_lt 65536 (length line)) ≡ true → Taken q gs (Err LineTooLong)
  long_line gs q h l = takes_place gs q (Err LineTooLong) (λ v f. tt) (λ e. let bad : LineTooLong ≡ Memory = cc in cc)
      (subst (λ r. Said r q (Err LineTooLong)) (sym (long_says h l)) (inl (None, refl, refl)))

  -- any other line
  module _ (h : is_skipped line ≡ false) (l : (top_used fs && nat_lt 65536 (length line)) ≡ false) where
    says_directive : effect_here ≡ directive_effect (top_used fs) (directive_of line) out
    unfolding line_effect
    says_directive = rw (h, l) refl

    grows_directive : directive_grows (top_used fs) (length fs) (directive_of line) ≡ true
        → line_grows (top_used fs) (length fs) line ≡ true
    unfolding line_grows
    grows_directive g = rw (h, l, g) refl

    directive_after : (gs : List Frame)
        → gs ≡ frames_after (role_of (directive_of line)) (top_used fs) (directive_chooses (is_defined earlier) (directive_of line)) fs
        → (v : Verdict) → fault_here v ≡ None → IsOpen (seen_in text earlier ++ seen (marked v) ∷ []) gs
    directive_after gs e v f = search (rules, blocks_after, says_directive)

    directive_taken : {A : Type 0} (gs : List Frame) (q : SettingsBuilder A) (result : Result (Unit {0}) ConfFaultKind)
        → OnOk result (gs ≡ frames_after (role_of (directive_of line)) (top_used fs)
        (directive_chooses (is_defined earlier) (directive_of line)) fs)
        → (result ≡ Err Memory → directive_grows (top_used fs) (length fs) (directive_of line) ≡ true)
        → Said (directive_effect (top_used fs) (directive_of line) out) q result → Taken q gs result
    directive_taken gs q (Ok u) b m t = search (rules, takes_place, directive_after, grows_directive, says_directive)
    directive_taken gs q (Err kind) b m t = search (rules, takes_place, grows_directive, says_directive)

    -- a directive
    pub directive_line : {A : Type 0} (i : Option (Directive (List ℕ))) (gs : List Frame) (q : SettingsBuilder A)
        (result : Result (Unit {0}) ConfFaultKind) → directive_of line ≡ i → directive_text line i ≡ directive_text [] i
        → OnOk result (gs ≡ frames_after (role_of i) (top_used fs) (directive_chooses (is_defined earlier) i) fs)
        → (result ≡ Err Memory → directive_grows (top_used fs) (length fs) i ≡ true)
        → Said (directive_effect (top_used fs) i (expansion_after (value earlier) 0 (directive_text [] i))) q result → Taken q gs result
    directive_line {A} i gs q result e f b m t = directive_taken gs q result
        (subst (λ z. OnOk result (gs ≡ frames_after (role_of z) (top_used fs) (directive_chooses (is_defined earlier) z) fs)) (sym e) b)
        (λ w. ap (directive_grows (top_used fs) (length fs)) e ∙ m w)
        (subst (λ z. Said (directive_effect (top_used fs) z (expansion_after (value earlier) 0 (directive_text line z))) q result) (sym e)
        (subst (λ z. Said (directive_effect (top_used fs) i (expansion_after (value earlier) 0 z)) q result) (sym f) t))

    -- a line that is no directive
    pub plain_line : {A : Type 0} (q : SettingsBuilder A) (result : Result (Unit {0}) ConfFaultKind) → is_directive line ≡ false
        → (result ≡ Err Memory → top_used fs ≡ true)
        → Said (if top_used fs then expanded_effect (strip (expansion_after (value earlier) 0 line)) else Nothing) q result
        → Taken q fs result
    unfolding directive_of
    plain_line q result d m t = search (rules, directive_taken)

  -- the blocks behind this line, where it has no fault
  blocks_behind : (v : Verdict) → IsJudgedWell (meaning_after earlier) (expression_in effect_here) v
      → fault_at need earlier (marked v) ≡ None
      → (gs : List Frame) × IsOpen (seen_in text earlier ++ seen (marked v) ∷ []) gs
  blocks_behind v j f = by_skip (is_skipped line) refl
    where
      by_length : is_skipped line ≡ false → (b : Bool) → (top_used fs && nat_lt 65536 (length line)) ≡ b
          → (gs : List Frame) × IsOpen (seen_in text earlier ++ seen (marked v) ∷ []) gs
      by_length h true l = search (rules, long_says, fault-marked)
      by_length h false l = (
        frames_after (role_of (directive_of line)) (top_used fs) (directive_chooses (is_defined earlier) (directive_of line)) fs,
        directive_after h l _ refl v (sym (fault-marked v j) ∙ f),
      )

      by_skip : (b : Bool) → is_skipped line ≡ b
          → (gs : List Frame) × IsOpen (seen_in text earlier ++ seen (marked v) ∷ []) gs
      by_skip true h = (fs, plain_after (skipped_directive h) v)
      by_skip false h = by_length h (top_used fs && nat_lt 65536 (length line)) refl

  -- This line is marked in some way, where its expression is judged in some way.
  pub goes_on : ((v : Verdict) × IsJudgedWell (meaning_after earlier) (expression_in effect_here) v)
      → (x : Marked) × (x.place ≡ place_at text n (Some line)) × IsMarkedWell earlier x
      × (fault_at need earlier x ≡ None → (gs : List Frame) × IsOpen (seen_in text (earlier ++ x ∷ [])) gs)
  goes_on j = search (rules, well, blocks_behind, seen_in-more)

-- a directive is what follows its `@@`
pub directive_is : (line : List ℕ) (i : Option (Directive (List ℕ))) → is_directive line ≡ true → i ≡ Some (read_directive (drop 2 line))
    → directive_of line ≡ i
unfolding directive_of
directive_is line i d e = ap (λ z. if z then Some (read_directive (drop 2 line)) else None) d ∙ sym e

-- the code's directives are never plain lines
pub text_of_directive : (line : List ℕ) (d : Directive (Bor (List ℕ))) → directive_text line (as_lists d) ≡ directive_text [] (as_lists d)
text_of_directive line (code.Define n v) = refl
text_of_directive line _ = refl

-- ---- the end of a text

is_none-text_at : {A : Type 0} (t : Option (String A)) (q : Option (List ℕ)) → text_at t ≡ q → is_none t ≡ is_none q
is_none-text_at None q h = ap is_none h
is_none-text_at (Some t) q h = ap is_none h

pub missing_is : {A : Type 0} (earlier : List Marked) (p : SettingsBuilder A) → IsBuiltFrom earlier p
    → missing (is_none p.old_path) (is_none p.new_path) ≡ end_fault Compare After earlier
missing_is earlier p s = search (rules, is_none-text_at)

module _ (need : Need) (earlier : List Marked) (text : ConfText) (n : ℕ) (fs : List Frame) (o : IsOpen (seen_in text earlier) fs) where
  abbrev end_marked : Marked
  end_marked = record {
    place = place_at text n None;
    used = top_used fs;
    depth = length fs;
    divided = top_divided fs;
    first = false;
    expanded = [];
    verdict = None;
  }

  says-end : says end_marked ≡ Nothing
  unfolding says
  says-end = refl

  well_end : IsMarkedWell earlier end_marked
  well_end = record {
    is_used = used_right (seen_in text earlier) fs (seen end_marked) o refl;
    is_enclosed = depth_right (seen_in text earlier) fs o;
    is_divided = divided_right (seen_in text earlier) fs o;
    is_first = refl;
    is_expanded = plain [] tt;
    is_judged = subst (λ z. IsJudgedWell (meaning_after earlier) (expression_in z) None) (sym says-end) refl;
  }

  fault-end : fault_at need earlier end_marked ≡ option_or (end_block_fault (length fs)) (end_fault need text earlier)
  fault-end = sym (first_of_place need earlier end_marked well_end)

  -- this end is marked in some way
  pub ends_somehow : (x : Marked) × (x.place ≡ place_at text n None) × IsMarkedWell earlier x
      × (fault_at need earlier x ≡ None → (gs : List Frame) × IsOpen (seen_in text (earlier ++ x ∷ [])) gs)
  ends_somehow = (
    end_marked,
    refl,
    well_end,
    λ f. (
      fs,
      subst (λ z. IsOpen z fs) (sym (seen_in-more text earlier end_marked refl))
          (single_next (seen_in text earlier) fs (seen end_marked) o refl),
    ),
  )

  pub block_open : {A : Type 0} (p : SettingsBuilder A) → 0 < length fs
      → TakesOne {E = Unit {0}} need earlier (place_at text n None) p fs (Err MissingEndif)
  block_open p h = search (rules, nat_tests, well_end, fault-end)

  no_block : length fs ≡ 0
      → option_or (end_block_fault (length fs)) (end_fault need text earlier) ≡ end_fault need text earlier
  no_block h = search (rules, nat_tests)

  pub ended : {A : Type 0} (p : SettingsBuilder A) → IsBuiltFrom earlier p → (u : Unit {0}) → length fs ≡ 0 → end_fault need text earlier
      ≡ None → TakesOne {E = Unit {0}} need earlier (place_at text n None) p fs (Ok u)
  ended p s u h e = search (rules, well_end, fault-end, no_block, built_same, says-end, seen_in-more, single_next)

  pub end_refused : {A : Type 0} (p : SettingsBuilder A) (kind : ConfFaultKind) → length fs ≡ 0 → end_fault need text earlier ≡ Some kind
      → TakesOne {E = Unit {0}} need earlier (place_at text n None) p fs (Err kind)
  end_refused p kind h e = inl (end_marked, refl, well_end, fault-end ∙ no_block h ∙ e)

  -- the end of the last text, where databases may be missing
  pub lacking : {A : Type 0} (p : SettingsBuilder A) → IsBuiltFrom earlier p → length fs ≡ 0
      → end_fault need text earlier ≡ end_fault Compare After earlier
      → (result : Result (Unit {0}) ConfFaultKind) → fault_of result ≡ missing (is_none p.old_path) (is_none p.new_path)
      → TakesOne {E = Unit {0}} need earlier (place_at text n None) p fs result
  lacking p s h e (Ok u) k = ended p s u h (e ∙ sym (missing_is earlier p s) ∙ sym k)
  lacking p s h e (Err kind) k = end_refused p kind h (e ∙ sym (missing_is earlier p s) ∙ sym k)
