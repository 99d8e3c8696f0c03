-- A string byte by byte. A byte with which a hidden character can begin waits until the character is known.
use Rattle.std.specs.Prelude.{ℕ, ◌+◌, ◌==◌, ◌||◌, ◌&&◌, if◌then◌else◌, List, [], ◌∷◌, ◌++◌}
use Rattle.std.specs.Prelude.{nat_lt, nat_le}
use Rattle.aide_json.specs.Json.{u_escape}

-- what is written for a byte with which no hidden character of more bytes begins
abbrev pub one_byte : ℕ → List ℕ
one_byte c =
    if c == 34 || c == 92 then 92 ∷ c ∷ []
    else (if nat_lt c 0x20 || c == 0x7f then u_escape c else (c ∷ []))

-- what is written for C2 and a byte after it: U+0080 to U+00BF
abbrev pub after_c2 : ℕ → List ℕ
after_c2 c = if nat_lt c 0xa0 then u_escape c else (0xc2 ∷ c ∷ [])

-- what is written for D8 and a byte after it: U+0600 to U+063F
abbrev pub after_d8 : ℕ → List ℕ
after_d8 c = if c == 0x9c then u_escape 0x61c else (0xd8 ∷ c ∷ [])

-- what is written for E2 80 and a byte after them: U+2000 to U+203F
abbrev pub after_e2_80 : ℕ → List ℕ
after_e2_80 c =
    if (nat_le 0x8e c && nat_le c 0x8f) || (nat_le 0xa8 c && nat_le c 0xae)
    then u_escape (0x1f80 + c) else (0xe2 ∷ 0x80 ∷ c ∷ [])

-- what is written for E2 81 and a byte after them: U+2040 to U+207F
abbrev pub after_e2_81 : ℕ → List ℕ
after_e2_81 c =
    if nat_le 0xa6 c && nat_le c 0xa9
    then u_escape (0x1fc0 + c) else (0xe2 ∷ 0x81 ∷ c ∷ [])

-- what is begun of a character that may be hidden: nothing, C2, D8, E2, E2 80 or E2 81
pub data Begun : Type 0 where
  Nothing : Begun
  C2 : Begun
  D8 : Begun
  E2 : Begun
  E2_80 : Begun
  E2_81 : Begun

-- the bytes of what is begun
abbrev pub begun_bytes : Begun → List ℕ
begun_bytes Nothing = []
begun_bytes C2 = 0xc2 ∷ []
begun_bytes D8 = 0xd8 ∷ []
begun_bytes E2 = 0xe2 ∷ []
begun_bytes E2_80 = 0xe2 ∷ 0x80 ∷ []
begun_bytes E2_81 = 0xe2 ∷ 0x81 ∷ []

-- what is written for these bytes, after what is begun
abbrev pub text_after : Begun → List ℕ → List ℕ
text_after begun [] = begun_bytes begun
text_after Nothing (c ∷ cs) =
    if c == 0xc2 then text_after C2 cs
    else (if c == 0xd8 then text_after D8 cs
    else (if c == 0xe2 then text_after E2 cs
    else one_byte c ++ text_after Nothing cs))
text_after C2 (c ∷ cs) = after_c2 c ++ text_after Nothing cs
text_after D8 (c ∷ cs) = after_d8 c ++ text_after Nothing cs
text_after E2 (c ∷ cs) =
    if c == 0x80 then text_after E2_80 cs
    else (if c == 0x81 then text_after E2_81 cs
    else 0xe2 ∷ c ∷ text_after Nothing cs)
text_after E2_80 (c ∷ cs) = after_e2_80 c ++ text_after Nothing cs
text_after E2_81 (c ∷ cs) = after_e2_81 c ++ text_after Nothing cs
