-- A text that is UTF-8 is escaped byte by byte as it is character by character.
use Rattle.std.proofs.Common.{◌≡◌, ℕ, ◌+◌, ◌/◌, ◌<◌, ◌≤◌, Bool, true, false, ◌||◌, ◌==◌, if◌then◌else◌, nat_lt, List, []}
use Rattle.std.proofs.Common.{◌∷◌, ◌++◌, inl, inr, arith, refl, sym, ap, ◌∙◌, IsUtf8, chars, lt-ltb, le-ltb, ne_eqb, rules}
use Rattle.std.proofs.lemmas.Bool.{and_parts, cases_lt, cases_eq, cases_Bool}
use Rattle.std.proofs.lemmas.Bool.Decides.{nat_tests}
use Rattle.std.proofs.lemmas.Str.{encode_ascii, encodes-chars, scalars-chars}
use Rattle.std.specs.List.{flat_map}
use lib.Utf8.{scalar, scalars, encode, encodes, next, scalar_cases}
use Rattle.aide_json.specs.Json.{u_escape, is_hidden, json_char, json_text}
use Rattle.aide_json.specs.code.Escaping.{one_byte, after_c2, after_d8, after_e2_80, after_e2_81, text_after, Nothing, C2, D8, E2, E2_80}
use Rattle.aide_json.specs.code.Escaping.{E2_81}

two : (c : ℕ) → 128 ≤ c → c < 2048 → encode c ≡ (192 + c / 64) ∷ next c ∷ []
unfolding encode
two c l h = rw (le-ltb c 128 l, lt-ltb c 2048 h)

three : (c : ℕ) → 2048 ≤ c → c < 65536 → encode c ≡ (224 + c / 4096) ∷ next (c / 64) ∷ next c ∷ []
unfolding encode
three c l h = rw (le-ltb c 128 (omega arith), le-ltb c 2048 (omega arith), lt-ltb c 65536 h)

four : (c : ℕ) → 65536 ≤ c → encode c ≡ (240 + c / 262144) ∷ next (c / 4096) ∷ next (c / 64) ∷ next c ∷ []
unfolding encode
four c l = rw (le-ltb c 128 (omega arith), le-ltb c 2048 (omega arith), le-ltb c 65536 l)

last_of : (b d : Bool) (x y z : List ℕ) → b ≡ false → d ≡ false → (if b then x else (if d then y else z)) ≡ z
last_of b d x y z e f = ap (λ (b : Bool). if b then x else (if d then y else z)) e ∙ ap (λ (d : Bool). if d then y else z) f

middle_of : (b d : Bool) (x y z : List ℕ) → b ≡ false → d ≡ true → (if b then x else (if d then y else z)) ≡ y
middle_of b d x y z e f = ap (λ (b : Bool). if b then x else (if d then y else z)) e ∙ ap (λ (d : Bool). if d then y else z) f

no_quote : (c : ℕ) → 128 ≤ c → (c == 34 || c == 92) ≡ false
no_quote c h = grind (arith, nat_tests)

plain : (c : ℕ) → 128 ≤ c → is_hidden c ≡ false → json_char c ≡ encode c
plain c h e = last_of (c == 34 || c == 92) (is_hidden c) (92 ∷ c ∷ []) (u_escape c) (encode c) (no_quote c h) e

hidden : (c : ℕ) → 128 ≤ c → is_hidden c ≡ true → json_char c ≡ u_escape c
hidden c h e = middle_of (c == 34 || c == 92) (is_hidden c) (92 ∷ c ∷ []) (u_escape c) (encode c) (no_quote c h) e

-- ---- bytes

skip : (x : ℕ) (cs : List ℕ) → 128 ≤ x → (x ≡ 0xc2 → ⊥) → (x ≡ 0xd8 → ⊥) → (x ≡ 0xe2 → ⊥) → text_after Nothing (x ∷ cs)
    ≡ x ∷ text_after Nothing cs
skip x cs h a b d = search (rules, ne_eqb, last_of, no_quote, nat_tests)

low : (c : ℕ) (cs : List ℕ) → c < 128 → text_after Nothing (c ∷ cs) ≡ one_byte c ++ text_after Nothing cs
low c cs h = rw (ne_eqb c 0xc2 (omega arith), ne_eqb c 0xd8 (omega arith), ne_eqb c 0xe2 (omega arith))

low_hidden : (c : ℕ) → c < 128 → (nat_lt c 0x20 || c == 0x7f) ≡ is_hidden c
low_hidden c h = grind (arith, nat_tests)

low_char : (c : ℕ) → c < 128 → one_byte c ≡ json_char c
low_char c h = search (rules, low_hidden, encode_ascii)

from_c2 : (x : ℕ) (cs : List ℕ) → x ≡ 0xc2 → text_after Nothing (x ∷ cs) ≡ text_after C2 cs
from_c2 x cs e = ap (λ y. text_after Nothing (y ∷ cs)) e

from_d8 : (x : ℕ) (cs : List ℕ) → x ≡ 0xd8 → text_after Nothing (x ∷ cs) ≡ text_after D8 cs
from_d8 x cs e = ap (λ y. text_after Nothing (y ∷ cs)) e

from_e2 : (x y : ℕ) (cs : List ℕ) → x ≡ 0xe2 → (y ≡ 0x80 → ⊥) → (y ≡ 0x81 → ⊥) → text_after Nothing (x ∷ y ∷ cs)
    ≡ 0xe2 ∷ y ∷ text_after Nothing cs
from_e2 x y cs e a b = ap (λ z. text_after Nothing (z ∷ y ∷ cs)) e ∙ rw (ne_eqb y 0x80 a, ne_eqb y 0x81 b)

from_e2_80 : (x y : ℕ) (cs : List ℕ) → x ≡ 0xe2 → y ≡ 0x80 → text_after Nothing (x ∷ y ∷ cs) ≡ text_after E2_80 cs
from_e2_80 x y cs e f = ap (λ z. text_after Nothing (z ∷ y ∷ cs)) e ∙ ap (λ z. text_after E2 (z ∷ cs)) f

from_e2_81 : (x y : ℕ) (cs : List ℕ) → x ≡ 0xe2 → y ≡ 0x81 → text_after Nothing (x ∷ y ∷ cs) ≡ text_after E2_81 cs
from_e2_81 x y cs e f = ap (λ z. text_after Nothing (z ∷ y ∷ cs)) e ∙ ap (λ z. text_after E2 (z ∷ cs)) f

-- ---- characters

c2_char : (c : ℕ) → 128 ≤ c → c < 192 → after_c2 (next c) ≡ json_char c
c2_char c l h = search (rules, cases_lt, lt-ltb, hidden, nat_tests, le-ltb, plain, two)

d8_char : (c : ℕ) → 1536 ≤ c → c < 1600 → after_d8 (next c) ≡ json_char c
d8_char c l h = search (rules, cases_eq, ne_eqb, plain, nat_tests, two)

-- U+2000 to U+203F
e2_80_char : (c : ℕ) → 8192 ≤ c → c < 8256 → after_e2_80 (next c) ≡ json_char c
e2_80_char c l h = search (rules, cases_Bool, hidden, plain, three)

-- U+2040 to U+207F
e2_81_char : (c : ℕ) → 8256 ≤ c → c < 8320 → after_e2_81 (next c) ≡ json_char c
e2_81_char c l h = search (rules, cases_Bool, hidden, plain, three)

two_bytes : (c : ℕ) (bs : List ℕ) → 128 ≤ c → c < 2048 → text_after Nothing ((192 + c / 64) ∷ next c ∷ bs)
    ≡ json_char c ++ text_after Nothing bs
two_bytes c bs l h = elim (cases_lt c 192) [
  | inl a ↦ from_c2 (192 + c / 64) (next c ∷ bs) (omega arith) ∙ ap (λ g. g ++ text_after Nothing bs) (c2_char c l a)
  | inr a ↦ elim (cases_eq (c / 64) 24) [
    | inl e ↦ from_d8 (192 + c / 64) (next c ∷ bs) (omega arith)
        ∙ ap (λ g. g ++ text_after Nothing bs) (d8_char c (omega arith) (omega arith))
    | inr n ↦ skip (192 + c / 64) (next c ∷ bs) (omega arith) (omega arith) (omega arith) (omega arith)
        ∙ ap (λ l. (192 + c / 64) ∷ l) (skip (next c) bs (omega arith) (omega arith) (omega arith) (omega arith))
        ∙ ap (λ g. g ++ text_after Nothing bs) (sym (plain c l (grind (arith, nat_tests, n, a, h)) ∙ two c l h))
  ]
]

three_bytes : (c : ℕ) (bs : List ℕ) → 2048 ≤ c → c < 65536 → text_after Nothing ((224 + c / 4096) ∷ next (c / 64) ∷ next c ∷ bs)
    ≡ json_char c ++ text_after Nothing bs
three_bytes c bs l h = elim (cases_eq (c / 4096) 2) [
  | inl e ↦ elim (cases_eq (c / 64) 128) [
    | inl f ↦ from_e2_80 (224 + c / 4096) (next (c / 64)) (next c ∷ bs) (omega arith) (omega arith)
        ∙ ap (λ g. g ++ text_after Nothing bs) (e2_80_char c (omega arith) (omega arith))
    | inr m ↦ elim (cases_eq (c / 64) 129) [
      | inl f ↦ from_e2_81 (224 + c / 4096) (next (c / 64)) (next c ∷ bs) (omega arith) (omega arith)
          ∙ ap (λ g. g ++ text_after Nothing bs) (e2_81_char c (omega arith) (omega arith))
      | inr k ↦
          let lead : 224 + c / 4096 ≡ 0xe2 = omega arith in
          from_e2 (224 + c / 4096) (next (c / 64)) (next c ∷ bs) lead (omega (arith, m, k, e)) (omega (arith, m, k, e))
          ∙ ap (λ l. 0xe2 ∷ next (c / 64) ∷ l) (skip (next c) bs (omega arith) (omega arith) (omega arith) (omega arith))
          ∙ ap (λ g. g ++ text_after Nothing bs) (sym
          (plain c (omega arith) (grind (arith, nat_tests, e, m, k)) ∙ three c l h ∙ (λ i. lead i ∷ next (c / 64) ∷ next c ∷ [])))
    ]
  ]
  | inr n ↦ skip (224 + c / 4096) (next (c / 64) ∷ next c ∷ bs) (omega arith) (omega arith) (omega arith) (omega (arith, n))
      ∙ ap (λ l. (224 + c / 4096) ∷ l)
      (skip (next (c / 64)) (next c ∷ bs) (omega arith) (omega arith) (omega arith) (omega arith)
      ∙ ap (λ l. next (c / 64) ∷ l) (skip (next c) bs (omega arith) (omega arith) (omega arith) (omega arith)))
      ∙ ap (λ g. g ++ text_after Nothing bs) (sym (plain c (omega arith) (grind (arith, nat_tests, n, l)) ∙ three c l h))
]

four_bytes : (c : ℕ) (bs : List ℕ) → scalar c ≡ true → 65536 ≤ c
    → text_after Nothing ((240 + c / 262144) ∷ next (c / 4096) ∷ next (c / 64) ∷ next c ∷ bs) ≡ json_char c ++ text_after Nothing bs
four_bytes c bs ok l =
    let range = scalar_cases c ok in
    skip (240 + c / 262144) (next (c / 4096) ∷ next (c / 64) ∷ next c ∷ bs) (omega arith) (omega (arith, range)) (omega (arith, range))
    (omega (arith, range))
    ∙ ap (λ l. (240 + c / 262144) ∷ l)
    (skip (next (c / 4096)) (next (c / 64) ∷ next c ∷ bs) (omega arith) (omega arith) (omega arith) (omega arith)
    ∙ ap (λ l. next (c / 4096) ∷ l)
    (skip (next (c / 64)) (next c ∷ bs) (omega arith) (omega arith) (omega arith) (omega arith)
    ∙ ap (λ l. next (c / 64) ∷ l) (skip (next c) bs (omega arith) (omega arith) (omega arith) (omega arith))))
    ∙ ap (λ g. g ++ text_after Nothing bs) (sym (plain c (omega arith) (grind (arith, nat_tests, l)) ∙ four c l))

pub one_char : (c : ℕ) (bs : List ℕ) → scalar c ≡ true → text_after Nothing (encode c ++ bs) ≡ json_char c ++ text_after Nothing bs
one_char c bs ok = search (rules, cases_lt, encode_ascii, low, low_char, two, three, four, two_bytes, three_bytes, four_bytes)

all_chars : (cs : List ℕ) → scalars cs ≡ true → text_after Nothing (encodes cs) ≡ flat_map json_char cs
all_chars [] ok = refl
all_chars (c ∷ cs) ok = search (rules, all_chars cs, and_parts, one_char)

-- the two ways are one, where the text is UTF-8
pub text_after-IsUtf8 : (bs : List ℕ) → IsUtf8 bs → text_after Nothing bs ≡ json_text bs
text_after-IsUtf8 bs u = ap (text_after Nothing) (sym (encodes-chars bs u)) ∙ all_chars (chars bs) (scalars-chars bs u)
