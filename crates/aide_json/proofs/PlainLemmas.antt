-- A plain text is UTF-8, and it is written in a string as it is.
use Rattle.std.proofs.Common.{◌≡◌, ◌∙◌, ℕ, ◌<◌, true, List, [], ◌∷◌, ◌++◌, IsUtf8, refl, sym, ap, arith}
use Rattle.std.specs.List.{list_all}
use Rattle.std.proofs.lemmas.Bool.{and_parts, and_from}
use Rattle.std.proofs.lemmas.Bool.Decides.{nat_tests}
use Rattle.aide_json.proofs.EscapesLemmas.{text_after-IsUtf8}
use Rattle.aide_json.proofs.FollowsLemmas.{accepts-IsUtf8}
use Rattle.aide_json.proofs.MemberLemmas.{as_text}
use Rattle.aide_json.specs.Json.{quoted}
use Rattle.aide_json.specs.Value.{name_colon, print_member, text_member, word}
use Rattle.aide_json.specs.code.Escaping.{text_after, Nothing}
use Rattle.aide_json.specs.code.Follows.{accepts, is_closed, may_follow}
use Rattle.aide_json.specs.code.Plain.{is_plain}

closed_low : (x y z : ℕ) → x < 128 → y < 128 → z < 128 → is_closed x y z ≡ true
closed_low x y z a b d = grind (arith, nat_tests)

follows_low : (x y z c : ℕ) → x < 128 → y < 128 → z < 128 → is_plain c ≡ true → may_follow x y z c ≡ true
follows_low x y z c a b d plain = grind (arith, nat_tests, plain)

plain_low : (c : ℕ) → is_plain c ≡ true → c < 128
plain_low c plain = grind (arith, nat_tests, plain)

plain_accepted : (x y z : ℕ) (cs : List ℕ) → x < 128 → y < 128 → z < 128 → list_all is_plain cs ≡ true
    → accepts x y z cs ≡ true
plain_accepted x y z [] a b d plain = closed_low x y z a b d
plain_accepted x y z (c ∷ cs) a b d plain =
    let parts = and_parts (is_plain c) (list_all is_plain cs) plain in
    and_from _ _ (follows_low x y z c a b d parts.0) (plain_accepted y z c cs b d (plain_low c parts.0) parts.1)

plain_utf8 : (cs : List ℕ) → list_all is_plain cs ≡ true → IsUtf8 cs
plain_utf8 cs plain = (accepts-IsUtf8 cs).0 (plain_accepted 0 0 0 cs (omega arith) (omega arith) (omega arith) plain)

plain_byte : (c : ℕ) (cs : List ℕ) → is_plain c ≡ true → text_after Nothing (c ∷ cs) ≡ c ∷ text_after Nothing cs
plain_byte c cs plain = grind (arith, nat_tests, plain)

plain_bytes : (cs : List ℕ) → list_all is_plain cs ≡ true → text_after Nothing cs ≡ cs
plain_bytes [] plain = refl
plain_bytes (c ∷ cs) plain =
    let parts = and_parts (is_plain c) (list_all is_plain cs) plain in
    plain_byte c cs parts.0 ∙ ap (λ l. c ∷ l) (plain_bytes cs parts.1)

pub as_plain : (name text : List ℕ) → list_all is_plain text ≡ true
    → print_member (name, word text) ≡ print_member (text_member name text)
unfolding quoted
as_plain name text plain =
    let u = plain_utf8 text plain in
    ap (λ t. name_colon name ++ 34 ∷ (t ++ 34 ∷ [])) (sym (plain_bytes text plain) ∙ text_after-IsUtf8 text u) ∙ as_text name text u
