-- The test of a path says what the relation says: it counts the components and the names that begin with a dot.
use Rattle.std.proofs.lemmas.Grind.{common_steps}
use Rattle.std.proofs.Common.{◌≡◌, ◌≤◌, ◌+◌, ℕ, Bool, true, false, ◌||◌, not, List, [], ◌∷◌, refl, ap, sym, ◌∙◌, arith, eq-eqb, inl}
use Rattle.std.proofs.Common.{inr, rules}
use Rattle.std.specs.Prelude.{if◌then◌else◌, ◌↔◌, Option, Some, None}
use Rattle.std.specs.List.{list_any}
use Rattle.std.proofs.lemmas.Bool.{and_parts, and_from, or_cases, false≢true, eqb-true}
use Rattle.aide_patterns.specs.Parts.{one, many, Matches, end, item, none, more}
use Rattle.aide_patterns.specs.Component.{component_parts}
use Rattle.aide_patterns.specs.Path.{Pattern, is_dotted, pattern_from, pattern_of}
use Rattle.aide_patterns.specs.Path.{IsPlainName, MatchesName, MatchesPath}
use Rattle.aide_patterns.specs.Tests.{dots, matches, matches_name, matches_text, some_rest, line_of, names}
use Rattle.aide_patterns.specs.Line.{RuleText}
use Rattle.aide_patterns.specs.Rules.{Names, IsFirst, IsFound, IsNamed}
use Rattle.aide_patterns.proofs.FindLemmas.{line_behind, line_here}
use Rattle.aide_patterns.proofs.MatchLemmas.{here, or_right}
use Rattle.aide_patterns.proofs.MeaningLemmas.{parts_complete, parts_sound, some_in, some_test}

abbrev pub one_if : Bool → ℕ
one_if b = if b then 1 else 0

-- one if this begins with a dot
abbrev pub dot : List ℕ → ℕ
dot text = one_if (is_dotted text)

-- how many components of a pattern begin with a dot
abbrev pub pattern_dots : Pattern → ℕ
pattern_dots [] = 0
pattern_dots (one text ∷ ps) = dot text + pattern_dots ps
pattern_dots (many ∷ ps) = pattern_dots ps

-- a component that begins with a dot matches no other name
dot_kept : (component name : List ℕ) → is_dotted component ≡ true → matches_name component name ≡ true
    → is_dotted name ≡ true
dot_kept [] name h m = absurd (false≢true h)
dot_kept (byte ∷ component) name h m = search rules

dot_fits : (component name : List ℕ) → matches_name component name ≡ true → dot component ≤ dot name
dot_fits component name m = search rules

some_fits : (ps : Pattern) → ((ys : List (List ℕ)) → matches matches_name ps ys ≡ true → pattern_dots ps ≤ dots ys)
    → (xs : List (List ℕ)) → some_rest (matches matches_name ps) xs ≡ true → pattern_dots ps ≤ dots xs
some_fits ps each [] h = each [] h
some_fits ps each (x ∷ xs) h = search (rules, some_fits ps each xs, or_cases)

-- no pattern has more of them than what it matches
fits : (ps : Pattern) (xs : List (List ℕ)) → matches matches_name ps xs ≡ true → pattern_dots ps ≤ dots xs
fits [] xs h = omega arith
fits (one t ∷ ps) [] h = absurd (false≢true h)
fits (one t ∷ ps) (x ∷ xs) h = search (rules, fits ps xs, and_parts, dot_fits)
fits (many ∷ ps) xs h = some_fits ps (λ ys k. fits ps ys k) xs h

dotted : (b c : Bool) → one_if b ≡ one_if c → c ≡ true → b ≡ true
dotted true c e h = refl
dotted false true e h = absurd (omega (arith, e))
dotted false false e h = h

undotted : (b : Bool) → one_if b ≡ 0 → b ≡ false
undotted true e = absurd (omega (arith, e))
undotted false e = refl

some_sound : (ps : Pattern)
    → ((ys : List (List ℕ)) → matches matches_name ps ys ≡ true → pattern_dots ps ≡ dots ys
    → Matches MatchesName IsPlainName ps ys)
    → (xs : List (List ℕ)) → some_rest (matches matches_name ps) xs ≡ true → pattern_dots ps ≡ dots xs
    → Matches MatchesName IsPlainName (many ∷ ps) xs
some_sound ps each [] h e = none (each [] h e)
some_sound ps each (x ∷ xs) h e = elim (or_cases (matches matches_name ps (x ∷ xs)) (some_rest (matches matches_name ps) xs) h) [
  | inl now ↦ none (each (x ∷ xs) now e)
  | inr later ↦
      let least = some_fits ps (λ ys k. fits ps ys k) xs later in
      let here : dot x ≡ 0 = omega (arith, e, least) in
      more (undotted (is_dotted x) here) (some_sound ps each xs later (omega (arith, e, here)))
]

-- with as many of them, no wildcard stands for a dot
names_sound : (ps : Pattern) (xs : List (List ℕ)) → matches matches_name ps xs ≡ true → pattern_dots ps ≡ dots xs
    → Matches MatchesName IsPlainName ps xs
names_sound [] [] h e = end
names_sound [] (x ∷ xs) h e = absurd (false≢true h)
names_sound (one t ∷ ps) [] h e = absurd (false≢true h)
names_sound (one t ∷ ps) (x ∷ xs) h e =
    let both = and_parts (matches_name t x) (matches matches_name ps xs) h in
    let first = dot_fits t x both.0 in
    let least = fits ps xs both.1 in
    let same : dot t ≡ dot x = omega (arith, e, first, least) in
    item (record { matches = parts_sound (component_parts t) x both.0; dot = dotted (is_dotted t) (is_dotted x) same })
    (names_sound ps xs both.1 (omega (arith, e, first, least)))
names_sound (many ∷ ps) xs h e = some_sound ps (λ ys k f. names_sound ps ys k f) xs h e

same_dot : (b c : Bool) → (b ≡ true → c ≡ true) → (c ≡ true → b ≡ true) → one_if b ≡ one_if c
same_dot true c h k = ap one_if (sym (h refl))
same_dot false true h k = absurd (false≢true (k refl))
same_dot false false h k = refl

pub names_complete : {ps : Pattern} {xs : List (List ℕ)} → Matches MatchesName IsPlainName ps xs
    → (matches matches_name ps xs ≡ true) × (pattern_dots ps ≡ dots xs)
names_complete end = (refl, refl)
names_complete (item {t} {x} {ps} {xs} p m) =
    let k = names_complete m in
    let it = parts_complete (component_parts t) x p.matches in (
      and_from (matches_name t x) (matches matches_name ps xs) it k.0,
      omega (arith, k.1, same_dot (is_dotted t) (is_dotted x) (λ h. dot_kept t x h it) p.dot),
    )
names_complete (none {ps} {xs} m) = let k = names_complete m in (here matches_name ps xs k.0, k.1)
names_complete (more {x} {ps} {xs} taken m) = search (rules, names_complete m, or_right, one_if)

-- the pattern of some components has as many
pub pattern_of_dots : (texts : List (List ℕ)) → pattern_dots (pattern_from texts) ≡ dots texts
pattern_of_dots [] = refl
pattern_of_dots (text ∷ []) = search rules
pattern_of_dots (text ∷ next ∷ texts) = search (rules, pattern_of_dots (next ∷ texts))

-- the test of a path is true exactly if the path matches the pattern of the text
pub text_meaning : (pattern path : List ℕ) → (matches_text pattern path ≡ true) ↔ MatchesPath (pattern_of pattern) path
text_meaning pattern path = search (rules, and_parts, names_sound, pattern_of_dots, eqb-true, names_complete, and_from, eq-eqb)

means_them : (is_program programs : Bool) → (not is_program || programs) ≡ true → is_program ≡ true → programs ≡ true
means_them true programs h is = h
means_them false programs h is = absurd (false≢true is)

may_mean : (is_program programs : Bool) → (is_program ≡ true → programs ≡ true) → (not is_program || programs) ≡ true
may_mean true programs h = h refl
may_mean false programs h = refl

rule_sound : (path : List ℕ) (is_program : Bool) (rule : RuleText) → names path is_program rule ≡ true
    → Names path is_program rule
rule_sound path is_program rule h = search (rules, and_parts, text_meaning, means_them)

rule_complete : (path : List ℕ) (is_program : Bool) (rule : RuleText) → Names path is_program rule
    → names path is_program rule ≡ true
rule_complete path is_program rule n = search (rules, and_from, may_mean, text_meaning)

-- the test of a list is true exactly if a rule names the path
pub list_meaning : (rules : List RuleText) (path : List ℕ) (is_program : Bool)
    → (list_any (names path is_program) rules ≡ true) ↔ IsNamed rules path is_program
list_meaning rules path is_program = (
  some_in (names path is_program) (Names path is_program) (rule_sound path is_program) rules,
  some_test (names path is_program) (Names path is_program) (rule_complete path is_program) rules,
)

-- the test finds the first rule that names the path
found_behind : (rule : RuleText) (rules : List RuleText) (path : List ℕ) (is_program : Bool) (result : Option ℕ)
    → names path is_program rule ≡ false → IsFound rules path is_program result → IsFound (rule ∷ rules) path is_program result
found_behind rule rules path is_program None it_does_not found =
    λ named. found ((list_meaning rules path is_program).0
    (ap (λ b. b || list_any (names path is_program) rules) (sym it_does_not)
    ∙ (list_meaning (rule ∷ rules) path is_program).1 named))
found_behind rule rules path is_program (Some line) it_does_not found = record {
  before = rule ∷ found.before;
  rule = found.rule;
  after = found.after;
  parts = ap (λ rs. rule ∷ rs) found.parts;
  number = found.number;
  names = found.names;
  others = λ named. found.others ((list_meaning found.before path is_program).0
      (ap (λ b. b || list_any (names path is_program) found.before) (sym it_does_not)
      ∙ (list_meaning (rule ∷ found.before) path is_program).1 named));
}

found_here : (rule : RuleText) (rules : List RuleText) (path : List ℕ) (is_program : Bool)
    → names path is_program rule ≡ true → IsFirst (rule ∷ rules) path is_program rule.line
found_here rule rules path is_program it_does = record {
  before = [];
  rule = rule;
  after = rules;
  parts = refl;
  number = refl;
  names = rule_sound path is_program rule it_does;
  others = λ named. false≢true ((list_meaning [] path is_program).1 named);
}

found_by : (rule : RuleText) (rules : List RuleText) (path : List ℕ) (is_program : Bool) (b : Bool)
    → names path is_program rule ≡ b → IsFound rules path is_program (line_of rules path is_program)
    → IsFound (rule ∷ rules) path is_program (line_of (rule ∷ rules) path is_program)
found_by rule rules path is_program true it_does found = grind (arith, common_steps, line_here, found_here)
found_by rule rules path is_program false it_does_not found = grind (arith, common_steps, line_behind, found_behind)

pub line_is_found : (rules : List RuleText) (path : List ℕ) (is_program : Bool)
    → IsFound rules path is_program (line_of rules path is_program)
line_is_found [] path is_program = λ named. false≢true ((list_meaning [] path is_program).1 named)
line_is_found (rule ∷ rules) path is_program = grind (arith, common_steps, line_is_found rules path is_program, found_by)
