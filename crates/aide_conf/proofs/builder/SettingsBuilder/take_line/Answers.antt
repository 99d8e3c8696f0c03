use Rattle.std.proofs.Common.{ℕ, Bool, sym, ap, subst, refl, ◌∙◌, ◌≡◌, ◌≤◌, length, rules, arith, true, false, Ok, Err, Some}
use Rattle.std.proofs.lemmas.Bool.Decides.{nat_tests}
use Rattle.std.proofs.lemmas.List.{take_rest}
use Rattle.std.specs.Prelude.{if◌then◌else◌, ◌&&◌, nat_lt}
use Rattle.aide_conf.specs.declared.fault.ConfFaultKind.TheVariants.{Memory}
use Rattle.aide_conf.specs.Cutting.{strip}
use Rattle.aide_conf.specs.code.Replacing.{expansion_after}
use Rattle.aide_conf.specs.Effect.{Nothing, expanded_effect, is_skipped}
use Rattle.aide_conf.specs.Directive.{directive_of, read_directive}
use Rattle.aide_conf.specs.code.Returned.{as_lists}
use Rattle.aide_conf.specs.MarkedVariables.{value}
use Rattle.aide_conf.specs.code.Builder.{TakesEffect}
use Rattle.aide_conf.specs.code.Stack.{frames_of, top_used, top_divided}
use Rattle.aide_conf.proofs.Cuts.{length-is_directive}
use Rattle.aide_conf.proofs.Takes.{nothing}
use Rattle.aide_conf.proofs.PlaceTaken.{skipped_line, long_line, directive_line, plain_line, text_of_directive, directive_is}
use Rattle.aide_conf.proofs.builder.SettingsBuilder.take_line.Goals as goal
use Rattle.aide_conf.proofs.builder.SettingsBuilder.take_line.Goals.{else-used-via-then-used+else-line-gt-LONGEST_LINE}
use Rattle.aide_conf.proofs.builder.SettingsBuilder.take_line.Goals.{else-used-via-else-used}

pub returns-then-is_skipped : goal.returns-then-is_skipped
returns-then-is_skipped g c =
    let fs = frames_of c.args.blocks.now in
    let k : is_skipped c.args.line.now ≡ true = search rules in
    λ need earlier text n s o. skipped_line need earlier text n c.args.line.now fs o c.args.self.now tt k
    (nothing (Unit {0}) earlier (length fs) (top_divided fs) _ s tt)

pub slice_bounds-read_directive-count : goal.slice_bounds-read_directive-count
slice_bounds-read_directive-count g c = length-is_directive c.args.line.now (sym c.if-is_directive.ensures)

pub slice_bounds-read_directive-start : goal.slice_bounds-read_directive-start
slice_bounds-read_directive-start g c = search (rules, length-is_directive)

pub returns-then-line-gt-LONGEST_LINE : goal.returns-then-line-gt-LONGEST_LINE
returns-then-line-gt-LONGEST_LINE g c =
    let fs = frames_of c.args.blocks.now in
    let k : is_skipped c.args.line.now ≡ false = search rules in
    let u : top_used fs ≡ true = search rules in
    let l : nat_lt 65536 (length c.args.line.now) ≡ true = grind (arith, nat_tests, c.if-line-gt-LONGEST_LINE.true) in
    λ need earlier text n s o. long_line need earlier text n c.args.line.now fs o fs c.args.self.now k (rw (u, l) refl)

short : (used : Bool) (n : ℕ) → (used ≡ true → n ≤ 65536) → (used && nat_lt 65536 n) ≡ false
short false n h = refl
short true n h = let k : n ≤ 65536 = h refl in grind (arith, nat_tests)

pub returns-then-is_directive : goal.returns-then-is_directive
returns-then-is_directive g c =
    let fs = frames_of c.args.blocks.now in
    let k : is_skipped c.args.line.now ≡ false = search rules in
    let l : (top_used fs && nat_lt 65536 (length c.args.line.now)) ≡ false = elim c.else-used.branch [
      | else-used-via-then-used+else-line-gt-LONGEST_LINE w ↦ short (top_used fs) (length c.args.line.now)
          (λ u. omega (arith, w.if-line-gt-LONGEST_LINE))
      | else-used-via-else-used w ↦ short (top_used fs) (length c.args.line.now)
          (λ u. let bad : true ≡ false = sym u ∙ sym c.is_used-used.ensures ∙ w.if-used.false in cc)
    ] in
    let d = sym c.if-is_directive.ensures in
    λ need earlier text n s o.
    let i : directive_of c.args.line.now ≡ as_lists c.read_directive.result =
    directive_is c.args.line.now (as_lists c.read_directive.result) d
    (c.read_directive.ensures ∙ ap (λ z. Some (read_directive z)) (take_rest c.args.line.now 2)) in
    directive_line need earlier text n c.args.line.now fs o k l (as_lists c.read_directive.result)
    (frames_of c.take_directive.new.blocks) c.take_directive.new.self c.take_directive.result
    i (text_of_directive c.args.line.now c.read_directive.result) (c.take_directive.ensures.blocks earlier s)
    c.take_directive.ensures.memory (c.take_directive.ensures.taken earlier s)

pub returns-then-not-used : goal.returns-then-not-used
returns-then-not-used g c =
    let fs = frames_of c.args.blocks.now in
    let k : is_skipped c.args.line.now ≡ false = search rules in
    let u : top_used fs ≡ false = search rules in
    let l : (top_used fs && nat_lt 65536 (length c.args.line.now)) ≡ false = ap (λ z. z && nat_lt 65536 (length c.args.line.now)) u in
    let d = sym c.if-is_directive.ensures in
    λ need earlier text n s o. plain_line need earlier text n c.args.line.now fs o k l c.args.self.now (Ok tt) d
    (λ e. let bad : Ok tt ≡ Err Memory = e in cc)
    (subst (λ z. TakesEffect {E = Unit {0}} earlier (length fs) (top_divided fs)
    (if z then expanded_effect (strip (expansion_after (value earlier) 0 c.args.line.now)) else Nothing) c.args.self.now (Ok tt))
    (sym u)
    (nothing (Unit {0}) earlier (length fs) (top_divided fs) _ s tt))

pub returns : goal.returns
returns g c =
    let fs = frames_of c.args.blocks.now in
    let k : is_skipped c.args.line.now ≡ false = search rules in
    let u : top_used fs ≡ true = search rules in
    let l : (top_used fs && nat_lt 65536 (length c.args.line.now)) ≡ false = elim c.else-used.branch [
      | else-used-via-then-used+else-line-gt-LONGEST_LINE w ↦ short (top_used fs) (length c.args.line.now)
          (λ v. omega (arith, w.if-line-gt-LONGEST_LINE))
      | else-used-via-else-used w ↦ short (top_used fs) (length c.args.line.now)
          (λ v. let bad : true ≡ false = sym v ∙ sym c.is_used-used.ensures ∙ w.if-used.false in cc)
    ] in
    let d = sym c.if-is_directive.ensures in
    λ need earlier text n s o. plain_line need earlier text n c.args.line.now fs o k l c.take_plain.new.self c.take_plain.result d (λ e. u)
    (subst (λ z. TakesEffect {E = Unit {0}} earlier (length fs) (top_divided fs)
    (if z then expanded_effect (strip (expansion_after (value earlier) 0 c.args.line.now)) else Nothing) c.take_plain.new.self
    c.take_plain.result) (sym u)
    (c.take_plain.ensures earlier (length fs) (top_divided fs) s))
