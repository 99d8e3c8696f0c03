-- What a list says is what is read line by line; and what longer lists say.
use Rattle.std.proofs.lemmas.Grind.{common_steps}
use Rattle.std.proofs.Common.{◌≡◌, ◌≤◌, ◌+◌, ℕ, List, [], ◌∷◌, ◌++◌, length, refl, ap, sym, ◌∙◌, subst, arith, inl}
use Rattle.std.proofs.Common.{inr, append_assoc, length-append, rules}
use Rattle.std.specs.Prelude.{Some, None, Ok, Err}
use Rattle.std.specs.List.{All}
use Rattle.std.proofs.lemmas.Bool.{lt-ltb, le-ltb, eq-eqb}
use Rattle.std.proofs.lemmas.List.{append-nil}
use Rattle.std.proofs.lemmas.List.Elements.{All-head, All-tail}
use Rattle.aide_patterns.specs.Line.{LineResult, RuleText, rule_of}
use Rattle.aide_patterns.specs.List.{Line, numbered, most_rules, rule_at, rule_read, rules_of, fault_read, IsSound}
use Rattle.aide_patterns.specs.Pieces.{head_until, others_until, pieces}
use Rattle.aide_patterns.specs.code.Reading.{added, and_then, read_from}
use Rattle.aide_patterns.specs.declared.fault.ListFault.{ListFault}
use Rattle.aide_patterns.specs.declared.fault.ListFaultKind.{ListFaultKind}
use Rattle.aide_patterns.proofs.ReadLemmas.{FaultBehind}

-- a line without a fault is added
adds : (rules : List RuleText) (line : LineResult) → fault_read line ≡ None → length (rules ++ rule_read line) ≤ most_rules
    → added rules line ≡ Ok (rules ++ rule_read line)
adds rules (Ok None) sound few = ap Ok (sym (append-nil rules))
adds rules (Ok (Some rule)) sound few = grind (arith, common_steps, length-append, lt-ltb)
adds rules (Err kind) sound few = cc

-- a line with a fault is refused
refuses : (rules : List RuleText) (line : LineResult) (kind : ListFaultKind) → length rules ≤ most_rules
    → FaultBehind rules line kind → added rules line ≡ Err kind
refuses rules (Ok None) kind few (inr many) = absurd (omega (arith, few, many.1, ap length (append-nil rules)))
refuses rules (Ok (Some rule)) kind few (inr many) = grind (arith, common_steps, length-append, le-ltb)
refuses rules (Err first) kind few (inl own) = let is : first ≡ kind = cc in ap Err is
refuses rules (Err first) kind few (inr many) = absurd (omega (arith, few, many.1, ap length (append-nil rules)))
refuses rules _ kind few (inl own) = cc

-- lines without a fault are read
pub reads_rules : (number : ℕ) (rules : List RuleText) (texts : List (List ℕ)) → All IsSound (numbered number texts)
    → length (rules ++ rules_of (numbered number texts)) ≤ most_rules
    → read_from number rules texts ≡ Ok (rules ++ rules_of (numbered number texts))
reads_rules number rules [] sound few = ap Ok (sym (append-nil rules))
reads_rules number rules (text ∷ texts) sound few =
    let rest = rules_of (numbered (number + 1) texts) in
    let joined = append_assoc rules (rule_at (number, text)) rest in
    let fits : length (rules ++ rule_at (number, text)) ≤ most_rules =
    omega (arith, few, ap length joined, length-append (rules ++ rule_at (number, text)) rest) in
    let here = adds rules (rule_of number text)
    (All-head IsSound (number, text) (numbered (number + 1) texts) sound) fits in
    ap (λ r. and_then number r (λ others. read_from (number + 1) others texts)) here
    ∙ (reads_rules (number + 1) (rules ++ rule_at (number, text)) texts
    (All-tail IsSound (number, text) (numbered (number + 1) texts) sound) (omega (arith, few, ap length joined))
    ∙ ap Ok joined)

-- the first fault is found
pub reads_fault : (number : ℕ) (rules : List RuleText) (texts : List (List ℕ)) (before : List Line) (line : List ℕ)
    (after : List Line) (fault : ListFault) → numbered number texts ≡ before ++ (fault.line, line) ∷ after
    → All IsSound before → length (rules ++ rules_of before) ≤ most_rules
    → FaultBehind (rules ++ rules_of before) (rule_of fault.line line) fault.kind
    → read_from number rules texts ≡ Err fault
reads_fault number rules (text ∷ texts) [] line after fault e sound few why =
    let same : ◌≡◌ {A = Line} (number, text) (fault.line, line) = cc in
    let none = append-nil rules in
    let refused = refuses rules (rule_of fault.line line) fault.kind (omega (arith, few, ap length none))
    (subst (λ rs. FaultBehind rs (rule_of fault.line line) fault.kind) none why) in
    ap (λ l. and_then l.0 (added rules (rule_of l.0 l.1)) (λ others. read_from (l.0 + 1) others texts)) same
    ∙ ap (λ r. and_then fault.line r (λ others. read_from (fault.line + 1) others texts)) refused
reads_fault number rules (text ∷ texts) (first ∷ before) line after fault e sound few why =
    let same : ◌≡◌ {A = Line} (number, text) first = cc in
    let left : numbered (number + 1) texts ≡ before ++ (fault.line, line) ∷ after = cc in
    let joined : (rules ++ rule_at (number, text)) ++ rules_of before ≡ rules ++ rules_of (first ∷ before) =
    append_assoc rules (rule_at (number, text)) (rules_of before)
    ∙ ap (λ l. rules ++ rules_of (l ∷ before)) same in
    let fits : length (rules ++ rule_at (number, text)) ≤ most_rules =
    omega (arith, few, ap length joined, length-append (rules ++ rule_at (number, text)) (rules_of before)) in
    let here = adds rules (rule_of number text) (subst IsSound (sym same) (All-head IsSound first before sound)) fits in
    ap (λ r. and_then number r (λ others. read_from (number + 1) others texts)) here
    ∙ reads_fault (number + 1) (rules ++ rule_at (number, text)) texts before line after fault left
    (All-tail IsSound first before sound) (omega (arith, few, ap length joined))
    (subst (λ rs. FaultBehind rs (rule_of fault.line line) fault.kind) (sym joined) why)
reads_fault number rules [] [] line after fault e sound few why = cc
reads_fault number rules [] (first ∷ before) line after fault e sound few why = cc

-- ---- lines behind a list

-- the first piece ends at the separator, or before
head_ends : (separator : ℕ) (text behind : List ℕ)
    → head_until separator (text ++ separator ∷ behind) ≡ head_until separator text
head_ends separator [] behind = simp (eq-eqb separator separator refl)
head_ends separator (byte ∷ text) behind = search (rules, head_ends separator text behind)

others_go_on : (separator : ℕ) (text behind : List ℕ)
    → others_until separator (text ++ separator ∷ behind) ≡ others_until separator text ++ pieces separator behind
others_go_on separator [] behind = simp (eq-eqb separator separator refl)
others_go_on separator (byte ∷ text) behind = search (rules, others_go_on separator text behind, head_ends)

-- the pieces of two texts with a separator between them
pub pieces_go_on : (separator : ℕ) (text behind : List ℕ)
    → pieces separator (text ++ separator ∷ behind) ≡ pieces separator text ++ pieces separator behind
pieces_go_on separator text behind = search (rules, head_ends, others_go_on)

-- the rules of lines behind others are behind theirs
pub rules_go_on : (number : ℕ) (texts others : List (List ℕ))
    → (later : List RuleText) × (rules_of (numbered number (texts ++ others)) ≡ rules_of (numbered number texts) ++ later)
rules_go_on number [] others = (rules_of (numbered number others), refl)
rules_go_on number (text ∷ texts) others = search (rules, rules_go_on (number + 1) texts others, append_assoc)
