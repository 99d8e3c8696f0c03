-- Laws of patterns, and of lists of them.
use Rattle.std.proofs.lemmas.Grind.{common_steps}
use Rattle.std.proofs.Common.{◌≡◌, ℕ, Bool, true, false, List, [], ◌∷◌, ◌++◌, length, refl, ap, sym, ◌∙◌, subst, arith, eq-eqb}
use Rattle.std.proofs.Common.{append_assoc, rules}
use Rattle.std.specs.Prelude.{◌↔◌, Some, Result, Ok, Err}
use Rattle.std.specs.List.{All, list_all}
use Rattle.std.proofs.lemmas.Bool.{and_from, and_parts, eqb-true, false≢true}
use Rattle.std.proofs.lemmas.List.Elements.{All-nil, All-cons, All-head, All-tail}
use Rattle.aide_patterns.specs.Parts.{Part, many, Matches, none, more}
use Rattle.aide_patterns.specs.Path.{begins_with, components, pattern_of, IsPlainName, MatchesName, MatchesPath, Pattern}
use Rattle.aide_patterns.specs.Pieces.{pieces}
use Rattle.aide_patterns.specs.Line.{RuleText}
use Rattle.aide_patterns.specs.List.{numbered, rules_of, HasRules, IsReading}
use Rattle.aide_patterns.specs.Tests.{dots, line_of, matches_path, names}
use Rattle.aide_patterns.specs.Rules.{IsFound, IsNamed}
use Rattle.aide_patterns.specs.code.Fronts.{is_plain}
use Rattle.aide_patterns.specs.code.Reading.{read_list}
use Rattle.aide_patterns.specs.declared.fault.ListFault.{ListFault}
use Rattle.aide_patterns.proofs.DotLemmas.{list_meaning, names_complete, pattern_of_dots, text_meaning}
use Rattle.aide_patterns.proofs.FindLemmas.{line_behind, line_here}
use Rattle.aide_patterns.proofs.FrontLemmas.{one_part}
use Rattle.aide_patterns.proofs.LiteralLemmas.{first_no_star, within_is, within_itself}
use Rattle.aide_patterns.proofs.ReadLemmas.{list_is_read}
use Rattle.aide_patterns.proofs.ReadingLemmas.{pieces_go_on, reads_fault, reads_rules, rules_go_on}

-- ---- patterns

-- any number of items that may be taken, and then what the rest of the pattern matches
pub record Skips {T X : Type 0} (Passes : T → X → Type 0) (Takes : X → Type 0) (ps : List (Part T)) (xs : List X) : Type 0 where
  pub skipped : List X
  pub left : List X
  pub parts : xs ≡ skipped ++ left
  pub taken : All Takes skipped
  pub matches_left : Matches Passes Takes ps left

pub skips : {T X : Type 0} {Passes : T → X → Type 0} {Takes : X → Type 0} {ps : List (Part T)} {xs : List X}
    → Matches Passes Takes (many ∷ ps) xs → Skips Passes Takes ps xs
skips {Takes} {xs} (none m) = record { skipped = []; left = xs; parts = refl; taken = All-nil Takes; matches_left = m }
skips {Takes} (more {x} takes m) =
    let s = skips m in
    record {
      skipped = x ∷ s.skipped;
      left = s.left;
      parts = ap (λ ys. x ∷ ys) s.parts;
      taken = All-cons Takes x s.skipped takes s.taken;
      matches_left = s.matches_left;
    }

pub skipping : {T X : Type 0} {Passes : T → X → Type 0} {Takes : X → Type 0} {ps : List (Part T)} (skipped : List X)
    {left : List X} → All Takes skipped → Matches Passes Takes ps left → Matches Passes Takes (many ∷ ps) (skipped ++ left)
skipping [] all m = none m
skipping {Takes} (x ∷ skipped) all m =
    more (All-head Takes x skipped all) (skipping skipped (All-tail Takes x skipped all) m)

-- `**` matches any number of names that do not begin with a dot: with it, a pattern matches what its rest matches behind
-- some of them
pub double_star : (rest : Pattern) (xs : List (List ℕ)) → Matches MatchesName IsPlainName (many ∷ rest) xs
    ↔ Skips MatchesName IsPlainName rest xs
double_star rest xs = search (rules, skips, skipping)

-- What a pattern matches has as many names that begin with a dot as the pattern has components that do.
pub dots_are_spelled : (text path : List ℕ) → MatchesPath (pattern_of text) path
    → dots (components text) ≡ dots (components path)
dots_are_spelled text path m = sym (pattern_of_dots (components text)) ∙ (names_complete m.names).1

itself : (text path : List ℕ) → begins_with 47 text ≡ true → list_all is_plain text ≡ true
    → begins_with 47 path ≡ true → matches_path (pattern_of text) path ≡ true → path ≡ text
itself [] path s h t m = absurd (false≢true s)
itself (slash ∷ text) [] s h t m = absurd (false≢true t)
itself (slash ∷ text) (first ∷ path) s h t m = search (rules, and_parts, one_part, first_no_star, within_is, eqb-true)

matches_itself : (text : List ℕ) → begins_with 47 text ≡ true → list_all is_plain text ≡ true
    → matches_path (pattern_of text) text ≡ true
matches_itself [] s h = absurd (false≢true s)
matches_itself (slash ∷ text) s h = search (rules, and_parts, one_part, first_no_star, within_itself)

-- A path without `*`, `?`, `[` and a backslash is a pattern that matches this path, and no other.
pub literal : (text path : List ℕ) → begins_with 47 text ≡ true → list_all is_plain text ≡ true
    → MatchesPath (pattern_of text) path ↔ (path ≡ text)
literal text path s h = (
  λ m. itself text path s h m.slash (names_complete m.names).0,
  λ is. subst (MatchesPath (pattern_of text)) (sym is) ((text_meaning text text).0
      (and_from (begins_with 47 text) _ s
      (and_from (matches_path (pattern_of text) text) _ (matches_itself text s h)
      (eq-eqb (dots (components text)) (dots (components text)) refl)))),
)

-- ---- lists

-- a list without rules names nothing
pub nothing_named : (path : List ℕ) (is_program : Bool) → ¬ (IsNamed [] path is_program)
nothing_named path is_program named = false≢true ((list_meaning [] path is_program).1 named)

-- more rules behind others change no line that was found
pub line_stays : (rules later : List RuleText) (path : List ℕ) (is_program : Bool) (line : ℕ)
    → IsFound rules path is_program (Some line) → IsFound (rules ++ later) path is_program (Some line)
line_stays rules later path is_program line found = grind (arith, common_steps, append_assoc)

-- the same by computation
pub same_line : (rules later : List RuleText) (path : List ℕ) (is_program : Bool) (line : ℕ)
    → line_of rules path is_program ≡ Some line → line_of (rules ++ later) path is_program ≡ Some line
same_line [] later path is_program line e = cc
same_line (rule ∷ rules) later path is_program line e =
    go (names path is_program rule) refl (λ f. same_line rules later path is_program line f)
  where
    go : (b : Bool) → names path is_program rule ≡ b
        → (line_of rules path is_program ≡ Some line → line_of (rules ++ later) path is_program ≡ Some line)
        → line_of (rule ∷ (rules ++ later)) path is_program ≡ Some line
    go true h again = line_here rule (rules ++ later) path is_program h ∙ (sym (line_here rule rules path is_program h) ∙ e)
    go false h again =
        line_behind rule (rules ++ later) path is_program h ∙ again (sym (line_behind rule rules path is_program h) ∙ e)

-- the rules of a longer list begin with those of the list
pub longer_list : (text lines : List ℕ) (rules longer : List RuleText) → HasRules text rules
    → HasRules (text ++ 10 ∷ lines) longer → (later : List RuleText) × (longer ≡ rules ++ later)
longer_list text lines rules longer short long =
    let k = rules_go_on 1 (pieces 10 text) (pieces 10 lines) in (
      k.0,
      long.all ∙ (ap (λ ts. rules_of (numbered 1 ts)) (pieces_go_on 10 text lines)
          ∙ (k.1 ∙ ap (λ rs. rs ++ k.0) (sym short.all))),
    )

-- lines behind a list change no line that was found
pub line_stays_in_text : (text lines : List ℕ) (rules longer : List RuleText) (path : List ℕ) (is_program : Bool) (line : ℕ)
    → HasRules text rules → HasRules (text ++ 10 ∷ lines) longer → IsFound rules path is_program (Some line)
    → IsFound longer path is_program (Some line)
line_stays_in_text text lines rules longer path is_program line short long found = grind (arith, common_steps, longer_list, line_stays)

-- each text has a reading
pub has_reading : (text : List ℕ) → IsReading text (read_list text)
has_reading text = list_is_read text

-- and no other one
pub one_reading : (text : List ℕ) (reading : Result (List RuleText) ListFault) → IsReading text reading
    → reading ≡ read_list text
one_reading text (Ok rules) h =
    ap Ok h.all ∙ sym (reads_rules 1 [] (pieces 10 text) h.sound (omega (arith, h.few, ap length h.all)))
one_reading text (Err fault) h =
    sym (reads_fault 1 [] (pieces 10 text) h.before h.line h.after fault h.parts h.sound h.few h.why)
