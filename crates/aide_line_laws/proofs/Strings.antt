-- What stands between the quotes of a string is read back.
use Rattle.std.proofs.Common.{◌≡◌, ℕ, zero, suc, ◌+◌, ◌*◌, ◌/◌, ◌%◌, ◌<◌, ◌≤◌, Bool, true, false, cond, ◌&&◌, ◌==◌}
use Rattle.std.proofs.Common.{List, length, get_or, append-nil, [], ◌∷◌, ◌++◌, Option, Some, None, option_and_then, inl, inr, refl, sym, ap}
use Rattle.std.proofs.Common.{◌∙◌, subst, arith, append_assoc, IsUtf8, chars}
use Rattle.std.proofs.lemmas.Bool.{cases_eq, cases_lt, cases_Bool, ne_eqb, le-ltb, lt-leb, eqb-true, and_from, and_parts}
use Rattle.std.proofs.lemmas.Bool.Decides.{nat_tests}
use Rattle.std.proofs.lemmas.Str.{encode_ascii, encodes-chars, inside_one}
use Rattle.std.specs.List.{flat_map}
use Rattle.std.specs.Char.{encode_utf8, digit_value, is_digit}
use lib.Utf8.{encode, encodes}
use Rattle.json.specs.Text.{content, plain, after_high, prepend, code_unit, short_escape, is_high_surrogate, is_low_surrogate}
use Rattle.json.specs.Word.{is_operator, is_space}
use Rattle.json.specs.Lex.{Lexeme, Mode, lex, lex_byte, in_string, operator, space, other}
use Rattle.hex.specs.Hex.{encode_with, lower_digits}
use Rattle.aide_json.specs.Json.{hex_digit, u_escape, is_hidden, json_char, json_text}
use Rattle.aide_line_laws.specs.ByteValues.{AreBytes}
use Rattle.aide_line_laws.specs.Readable.{is_plain, are_plain}

-- before any text, t is read as the bytes s, and the lexer passes over it
pub record Spells (t s : List ℕ) : Type 0 where
  pub read : (r : List ℕ) → content plain (t ++ r) ≡ prepend s (content plain r)
  pub lexed : (r : List ℕ) → lex in_string (t ++ r) ≡ lex in_string r

prepend_none : (o : Option (List ℕ)) → o ≡ prepend [] o
prepend_none None = refl
prepend_none (Some s) = refl

prepend_twice : (a b : List ℕ) (o : Option (List ℕ)) → prepend a (prepend b o) ≡ prepend (a ++ b) o
prepend_twice a b None = refl
prepend_twice a b (Some s) = ap Some (sym (append_assoc a b s))

pub spells_nothing : Spells [] []
spells_nothing = record { read = λ r. prepend_none (content plain r); lexed = λ r. refl }

pub spells_both : (t s u v : List ℕ) → Spells t s → Spells u v → Spells (t ++ u) (s ++ v)
spells_both t s u v h k = record {
  read = λ r. ap (content plain) (append_assoc t u r) ∙ h.read (u ++ r) ∙ ap (prepend s) (k.read r) ∙ prepend_twice s v (content plain r);
  lexed = λ r. ap (lex in_string) (append_assoc t u r) ∙ h.lexed (u ++ r) ∙ k.lexed r;
}

-- ---- bytes that stand for themselves

stays_inside : (o s : Bool) (x : ℕ) (r : List ℕ) (k : Mode → List Lexeme)
    → lex_byte in_string (cond o operator (cond s space other)) x r k ≡ k in_string
stays_inside true s x r k = refl
stays_inside false true x r k = refl
stays_inside false false x r k = refl

pub spells_itself : (x : ℕ) → (x ≡ 34 → ⊥) → (x ≡ 92 → ⊥) → 32 ≤ x → Spells (x ∷ []) (x ∷ [])
unfolding content lex
spells_itself x q b l = record {
  read = λ r. rw (ne_eqb x 34 q, ne_eqb x 92 b, le-ltb x 32 l);
  lexed = λ r. rw (ne_eqb x 34 q, ne_eqb x 92 b) (stays_inside (is_operator x) (is_space x) x r (λ m. lex m r));
}

pub spells_plain : (x : ℕ) → is_plain x ≡ true → Spells (x ∷ []) (x ∷ [])
spells_plain x e = spells_itself x (grind (arith, nat_tests, e)) (grind (arith, nat_tests, e)) (grind (arith, nat_tests, e))

-- bytes that stand for themselves
pub spells_same : (xs : List ℕ) → are_plain xs ≡ true → Spells xs xs
spells_same [] e = spells_nothing
spells_same (x ∷ xs) e =
    let p = and_parts (is_plain x) (are_plain xs) e in
    spells_both (x ∷ []) (x ∷ []) xs xs (spells_plain x p.0) (spells_same xs p.1)

-- ---- digits of base 16

is_digit_of : ℕ → Bool
is_digit_of d = is_plain (hex_digit d) && (is_digit (hex_digit d) 16 && (digit_value (hex_digit d) == d))

all_below : ℕ → Bool
all_below zero = true
all_below (suc n) = is_digit_of n && all_below n

below : (n : ℕ) → all_below n ≡ true → (d : ℕ) → d < n → is_digit_of d ≡ true
unfolding all_below
below zero h d l = absurd (omega arith)
below (suc n) h d l = let p = and_parts (is_digit_of n) (all_below n) h in
    elim (cases_eq d n) [
      | inl e ↦ ap is_digit_of e ∙ p.0
      | inr ne ↦ below n p.1 d (omega arith)
    ]

sixteen_digits : all_below 16 ≡ true
unfolding all_below is_digit_of
sixteen_digits = refl

pub hex_digit_plain : (n : ℕ) → is_plain (hex_digit (n % 16)) ≡ true
unfolding is_digit_of
hex_digit_plain n = (and_parts _ _ (below 16 sixteen_digits (n % 16) (omega arith))).0

plain_digit : (n : ℕ) → n < 16 → is_plain (hex_digit n) ≡ true
plain_digit n l =
    let same : n % 16 ≡ n = omega arith in
    subst (λ d. is_plain (hex_digit d) ≡ true) same (hex_digit_plain n)

-- the digits of bytes in base 16
pub plain_digits : (bytes : List ℕ) → AreBytes bytes → are_plain (encode_with lower_digits bytes) ≡ true
unfolding encode_with
plain_digits [] h = refl
plain_digits (byte ∷ bytes) h =
    let small : byte < 256 = h.0 in
    and_from _ _ (plain_digit (byte / 16) (omega arith)) (and_from _ _ (hex_digit_plain byte) (plain_digits bytes h.1))

hex_digit_read : (n : ℕ) → (is_digit (hex_digit (n % 16)) 16 ≡ true) × (digit_value (hex_digit (n % 16)) ≡ n % 16)
unfolding is_digit_of
hex_digit_read n =
    let d = n % 16 in
    let p = and_parts _ _ (and_parts (is_plain (hex_digit d)) _ (below 16 sixteen_digits d (omega arith))).1 in
    (p.0, eqb-true (digit_value (hex_digit d)) d p.1)

unit_of : (a b c d w x y z : ℕ) → (is_digit a 16 ≡ true) × (digit_value a ≡ w) → (is_digit b 16 ≡ true) × (digit_value b ≡ x)
    → (is_digit c 16 ≡ true) × (digit_value c ≡ y) → (is_digit d 16 ≡ true) × (digit_value d ≡ z)
    → code_unit a b c d ≡ Some (w * 4096 + x * 256 + y * 16 + z)
unfolding code_unit
unit_of a b c d w x y z e f g h = λ i. cond (e.0 i && f.0 i && g.0 i && h.0 i) (Some (e.1 i * 4096 + f.1 i * 256 + g.1 i * 16 + h.1 i)) None

escaped_unit : (c : ℕ) → c < 65536
    → code_unit (hex_digit (c / 4096 % 16)) (hex_digit (c / 256 % 16)) (hex_digit (c / 16 % 16)) (hex_digit (c % 16)) ≡ Some c
escaped_unit c l =
    unit_of _ _ _ _ _ _ _ _ (hex_digit_read (c / 4096)) (hex_digit_read (c / 256)) (hex_digit_read (c / 16)) (hex_digit_read c)
    ∙ ap Some (omega arith)

-- a character by its number
spells_number : (c : ℕ) → c < 0xd800 → Spells (u_escape c) (encode c)
unfolding u_escape content lex
spells_number c l = record {
  read = λ r.
      ap (option_and_then
      (λ u. cond (is_high_surrogate u) (content (after_high u) r)
      (cond (is_low_surrogate u) None (prepend (encode_utf8 u) (content plain r))))) (escaped_unit c (omega arith))
      ∙ rw (lt-leb 0xd800 c l, lt-leb 0xdc00 c (omega arith));
  lexed = λ r.
      (digit (c / 4096)).lexed _ ∙ (digit (c / 256)).lexed _ ∙ (digit (c / 16)).lexed _ ∙ (digit c).lexed r;
}
  where
    digit : (n : ℕ) → Spells (hex_digit (n % 16) ∷ []) (hex_digit (n % 16) ∷ [])
    digit n = spells_plain (hex_digit (n % 16)) (hex_digit_plain n)

-- ---- characters

hidden_is_low : (c : ℕ) → is_hidden c ≡ true → c < 0xd800
hidden_is_low c e = elim (cases_lt c 0xd800) [
  | inl l ↦ l
  | inr l ↦ absurd (clash (sym e ∙ high c l))
]
  where
    clash : true ≡ false → ⊥
    clash h = cc

    high : (c : ℕ) → 0xd800 ≤ c → is_hidden c ≡ false
    high c l = grind (arith, nat_tests)

pub shown_is_plain : (c : ℕ) → is_hidden c ≡ false → 32 ≤ c
shown_is_plain c e = grind (arith, nat_tests, e)

quote_char : Spells (json_char 34) (encode 34)
unfolding content lex short_escape encode
quote_char = record { read = λ r. refl; lexed = λ r. refl }

backslash_char : Spells (json_char 92) (encode 92)
unfolding content lex short_escape encode
backslash_char = record { read = λ r. refl; lexed = λ r. refl }

pub hidden_char : (c : ℕ) → (c ≡ 34 → ⊥) → (c ≡ 92 → ⊥) → is_hidden c ≡ true → json_char c ≡ u_escape c
hidden_char c q b e = rw (ne_eqb c 34 q, ne_eqb c 92 b, e)

pub shown_char : (c : ℕ) → (c ≡ 34 → ⊥) → (c ≡ 92 → ⊥) → is_hidden c ≡ false → json_char c ≡ encode c
shown_char c q b e = rw (ne_eqb c 34 q, ne_eqb c 92 b, e)

spells_high : (xs : List ℕ) → ((k : ℕ) → k < length xs → 128 ≤ get_or xs k 0) → Spells xs xs
spells_high [] h = spells_nothing
spells_high (x ∷ xs) h =
    let high : 128 ≤ x = h 0 (omega arith) in
    spells_both (x ∷ []) (x ∷ []) xs xs (spells_itself x (λ e. omega arith) (λ e. omega arith) (omega arith))
    (spells_high xs (λ k below. h (suc k) (omega arith)))

pub high_bytes : (c : ℕ) → 128 ≤ c → (k : ℕ) → k < length (encode c) → 128 ≤ get_or (encode c) k 0
high_bytes c big k l = elim (cases_lt (get_or (encode c) k 0) 128) [
  | inl low ↦ absurd (omega (arith, inside_one c [] (encode c) k (sym (append-nil _)) l low))
  | inr h ↦ h
]

spells_encoded : (c : ℕ) → (c ≡ 34 → ⊥) → (c ≡ 92 → ⊥) → 32 ≤ c → Spells (encode c) (encode c)
spells_encoded c q b l = elim (cases_lt c 128) [
  | inl small ↦ subst (λ t. Spells t t) (sym (encode_ascii c small)) (spells_itself c q b l)
  | inr big ↦ spells_high (encode c) (high_bytes c big)
]

spells_char : (c : ℕ) → Spells (json_char c) (encode c)
spells_char c = elim (cases_eq c 34) [
  | inl e ↦ subst (λ x. Spells (json_char x) (encode x)) (sym e) quote_char
  | inr q ↦ elim (cases_eq c 92) [
    | inl e ↦ subst (λ x. Spells (json_char x) (encode x)) (sym e) backslash_char
    | inr b ↦ elim (cases_Bool (is_hidden c)) [
      | inl e ↦ subst (λ t. Spells t (encode c)) (sym (hidden_char c q b e)) (spells_number c (hidden_is_low c e))
      | inr e ↦ subst (λ t. Spells t (encode c)) (sym (shown_char c q b e)) (spells_encoded c q b (shown_is_plain c e))
    ]
  ]
]

spells_chars : (cs : List ℕ) → Spells (flat_map json_char cs) (encodes cs)
spells_chars [] = spells_nothing
spells_chars (c ∷ cs) = spells_both _ _ _ _ (spells_char c) (spells_chars cs)

-- A text that is UTF-8 is read back from what stands for it in a string.
pub spells_text : (bytes : List ℕ) → IsUtf8 bytes → Spells (json_text bytes) bytes
spells_text bytes u = subst (Spells (json_text bytes)) (encodes-chars bytes u) (spells_chars (chars bytes))
