-- What is read line by line is what the list says.
use Rattle.std.proofs.lemmas.Grind.{common_steps}
use Rattle.std.proofs.Common.{◌≡◌, ◌≤◌, ◌<◌, ◌+◌, ◌⊎◌, ℕ, List, [], ◌∷◌, ◌++◌, length, refl, ap, sym, ◌∙◌, subst, arith}
use Rattle.std.proofs.Common.{inl, append_assoc}
use Rattle.std.specs.Prelude.{Some, None, Result, Ok, Err}
use Rattle.std.specs.List.{All}
use Rattle.std.proofs.lemmas.List.{append-nil}
use Rattle.std.proofs.lemmas.List.Elements.{All-nil, All-cons}
use Rattle.aide_patterns.specs.Line.{LineResult, RuleText, rule_of}
use Rattle.aide_patterns.specs.List.{Line, numbered, most_rules, rule_at, rule_read, rules_of, fault_read, IsReading, IsSound}
use Rattle.aide_patterns.specs.Pieces.{pieces}
use Rattle.aide_patterns.specs.code.Reading.{added, and_then, read_from, read_list}
use Rattle.aide_patterns.specs.declared.fault.ListFault.{ListFault}
use Rattle.aide_patterns.specs.declared.fault.ListFaultKind.{ListFaultKind}
use Rattle.aide_patterns.specs.declared.fault.ListFaultKind.TheVariants.{TooMany}

-- a line was read behind some rules: it is sound, and its rule is behind them, if they are not too many
record IsAdded (rules : List RuleText) (line : LineResult) (all : List RuleText) : Type 0 where
  sound : fault_read line ≡ None
  rules_are : all ≡ rules ++ rule_read line
  few : length all ≤ most_rules

is_added : (rules : List RuleText) (line : LineResult) (all : List RuleText) → length rules ≤ most_rules
    → added rules line ≡ Ok all → IsAdded rules line all
is_added rules (Ok None) all fits e = grind (arith, common_steps, append-nil)
is_added rules (Ok (Some rule)) all fits e = grind (arith, common_steps)
is_added rules (Err kind) all fits e = cc

-- a line has a fault behind some rules: its own one, or that its rule is one too many
abbrev pub FaultBehind : List RuleText → LineResult → ListFaultKind → Type 0
FaultBehind rules line kind = (fault_read line ≡ Some kind)
    ⊎ ((kind ≡ TooMany) × (most_rules < length (rules ++ rule_read line)))

is_refused : (rules : List RuleText) (line : LineResult) (kind : ListFaultKind) → added rules line ≡ Err kind
    → FaultBehind rules line kind
is_refused rules (Ok None) kind e = cc
is_refused rules (Ok (Some rule)) kind e = grind (arith, common_steps)
is_refused rules (Err first) kind e = let is : first ≡ kind = cc in inl (ap Some is)

-- the lines from a number on have these rules, behind others
record RulesFrom (number : ℕ) (rules : List RuleText) (texts : List (List ℕ)) (all : List RuleText) : Type 0 where
  sound : All IsSound (numbered number texts)
  rules_are : all ≡ rules ++ rules_of (numbered number texts)
  few : length all ≤ most_rules

-- the lines from a number on have this first fault, behind the rules of others
record FaultFrom (number : ℕ) (rules : List RuleText) (texts : List (List ℕ)) (fault : ListFault) : Type 0 where
  before : List Line
  line : List ℕ
  after : List Line
  parts : numbered number texts ≡ before ++ (fault.line, line) ∷ after
  sound : All IsSound before
  few : length (rules ++ rules_of before) ≤ most_rules
  kind : FaultBehind (rules ++ rules_of before) (rule_of fault.line line) fault.kind

-- what the lines from a number on have, behind the rules of others
abbrev ReadFrom : ℕ → List RuleText → List (List ℕ) → Result (List RuleText) ListFault → Type 0
ReadFrom number rules texts (Ok all) = RulesFrom number rules texts all
ReadFrom number rules texts (Err fault) = FaultFrom number rules texts fault

-- a line was read, and the others behind it
one_more : (number : ℕ) (rules : List RuleText) (text : List ℕ) (texts : List (List ℕ)) (others : List RuleText)
    → IsAdded rules (rule_of number text) others → (r : Result (List RuleText) ListFault)
    → ReadFrom (number + 1) others texts r → ReadFrom number rules (text ∷ texts) r
one_more number rules text texts others one (Ok all) rest = record {
  sound = All-cons IsSound (number, text) (numbered (number + 1) texts) one.sound rest.sound;
  rules_are = rest.rules_are ∙ (ap (λ rs. rs ++ rules_of (numbered (number + 1) texts)) one.rules_are
      ∙ append_assoc rules (rule_at (number, text)) (rules_of (numbered (number + 1) texts)));
  few = rest.few;
}
one_more number rules text texts others one (Err fault) rest =
    let behind : others ++ rules_of rest.before ≡ rules ++ rules_of ((number, text) ∷ rest.before) =
    ap (λ rs. rs ++ rules_of rest.before) one.rules_are
    ∙ append_assoc rules (rule_at (number, text)) (rules_of rest.before) in
    record {
      before = (number, text) ∷ rest.before;
      line = rest.line;
      after = rest.after;
      parts = ap (λ ls. (number, text) ∷ ls) rest.parts;
      sound = All-cons IsSound (number, text) rest.before one.sound rest.sound;
      few = omega (arith, rest.few, ap length behind);
      kind = subst (λ rs. FaultBehind rs (rule_of fault.line rest.line) fault.kind) behind rest.kind;
    }

reads_from : (number : ℕ) (rules : List RuleText) (texts : List (List ℕ)) → length rules ≤ most_rules
    → ReadFrom number rules texts (read_from number rules texts)
reads_from number rules [] fits = record { sound = All-nil IsSound; rules_are = sym (append-nil rules); few = fits }
reads_from number rules (text ∷ texts) fits =
    go (λ others few. reads_from (number + 1) others texts few) (added rules (rule_of number text)) refl
  where
    go : ((others : List RuleText) → length others ≤ most_rules
        → ReadFrom (number + 1) others texts (read_from (number + 1) others texts))
        → (r : Result (List RuleText) ListFaultKind) → added rules (rule_of number text) ≡ r
        → ReadFrom number rules (text ∷ texts) (and_then number r (λ others. read_from (number + 1) others texts))
    go again (Ok others) here =
        let one = is_added rules (rule_of number text) others fits here in
        one_more number rules text texts others one (read_from (number + 1) others texts) (again others one.few)
    go again (Err kind) here = record {
      before = [];
      line = text;
      after = numbered (number + 1) texts;
      parts = refl;
      sound = All-nil IsSound;
      few = omega (arith, fits, ap length (append-nil rules));
      kind = subst (λ rs. FaultBehind rs (rule_of number text) kind) (sym (append-nil rules))
          (is_refused rules (rule_of number text) kind here);
    }

is_reading : (text : List ℕ) (r : Result (List RuleText) ListFault) → ReadFrom 1 [] (pieces 10 text) r → IsReading text r
is_reading text (Ok rules) h = record { sound = h.sound; all = h.rules_are; few = h.few }
is_reading text (Err fault) h = record {
  before = h.before;
  line = h.line;
  after = h.after;
  parts = h.parts;
  sound = h.sound;
  few = h.few;
  why = h.kind;
}

-- a list, read line by line, is its reading
pub list_is_read : (text : List ℕ) → IsReading text (read_list text)
list_is_read text = is_reading text (read_list text) (reads_from 1 [] (pieces 10 text) (omega arith))
