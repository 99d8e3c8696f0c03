-- Plain bytes, one after another.
use Rattle.std.proofs.lemmas.Grind.{common_steps}
use Rattle.std.proofs.Common.{rules, ◌≡◌, ◌∙◌, ℕ, ◌+◌, ◌<◌, List, [], ◌∷◌, ◌++◌, length, take, drop}
use Rattle.std.proofs.Common.{slice_index, refl, sym, ap, append_assoc, true, false, arith}
use Rattle.std.specs.Prelude.{◌≢◌, ◌&&◌}
use Rattle.std.specs.List.{list_all}
use Rattle.std.proofs.lemmas.Bool.{and_parts}
use Rattle.std.proofs.lemmas.List.{take_more, drop_more, take-append-drop, drop-drop}
use Rattle.std.proofs.Math.Bool.{and_assoc, and-true}
use Rattle.std.proofs.Math.Seq.{take-add}
use Rattle.percent_encoding.specs.Percent.{percent_decode}
use Rattle.percent_encoding.proofs.PercentLemmas.{percent_decode_not_percent, percent_decode-nil}
use Rattle.aide_text.specs.Printed.{printed, is_escaped}
use Rattle.aide_text.specs.code.Plain.{is_plain, IsPlainUpTo}

unescaped : (b : ℕ) → is_plain b ≡ true → is_escaped b ≡ false
unfolding is_plain
unescaped b plain = grind (arith, plain)

no_percent : (b : ℕ) → is_plain b ≡ true → b ≢ 37
unfolding is_plain
no_percent b plain e = grind (arith, plain, e)

-- a plain byte before other bytes
plain_first : (b : ℕ) (rest : List ℕ) → is_plain b ≡ true
    → printed (percent_decode (b ∷ rest)) ≡ b ∷ printed (percent_decode rest)
plain_first b rest plain = rw (percent_decode_not_percent b rest (no_percent b plain), unescaped b plain) refl

pub plain_more : (text : List ℕ) (i : ℕ) → i < length text → is_plain (slice_index text i) ≡ true → IsPlainUpTo text i
    → IsPlainUpTo text (i + 1)
plain_more text i within plain so_far = grind (arith, common_steps, drop_more, plain_first, slice_index, append_assoc, take_more)

pub nothing_printed : (text : List ℕ) → text ≡ [] → [] ≡ printed (percent_decode text)
nothing_printed text e = rw (e, percent_decode-nil) refl

all_plain : (xs ys : List ℕ) → list_all is_plain xs ≡ true
    → printed (percent_decode (xs ++ ys)) ≡ xs ++ printed (percent_decode ys)
all_plain [] ys plain = refl
all_plain (x ∷ xs) ys plain =
    let parts = and_parts (is_plain x) (list_all is_plain xs) plain in
    plain_first x (xs ++ ys) parts.0 ∙ ap (λ zs. x ∷ zs) (all_plain xs ys parts.1)

-- the first bytes are plain where each of them is
pub plain_front : (n : ℕ) (text : List ℕ) → list_all is_plain (take n text) ≡ true → IsPlainUpTo text n
plain_front n text plain =
    ap (λ xs. printed (percent_decode xs)) (sym (take-append-drop n text)) ∙ all_plain (take n text) (drop n text) plain

-- plain bytes behind plain bytes
pub plain_then : (text rest : List ℕ) (n m : ℕ) → rest ≡ drop n text → IsPlainUpTo text n → IsPlainUpTo rest m
    → IsPlainUpTo text (n + m)
plain_then text rest n m from first then = search (rules, append_assoc, take-add, drop-drop)

-- eight of them, as they are tested
pub eight_plain : (xs : List ℕ) → length xs ≡ 8
    → (is_plain (slice_index xs 0) && is_plain (slice_index xs 1) && is_plain (slice_index xs 2) && is_plain (slice_index xs 3)
    && is_plain (slice_index xs 4) && is_plain (slice_index xs 5) && is_plain (slice_index xs 6) && is_plain (slice_index xs 7))
    ≡ list_all is_plain xs
eight_plain (a ∷ b ∷ c ∷ d ∷ e ∷ f ∷ g ∷ h ∷ []) long = simp (and_assoc, and-true)
eight_plain _ long = absurd (omega arith)
