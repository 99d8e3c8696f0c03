-- What digests and times are, by their fields.
use Rattle.std.proofs.Common.{◌≡◌, ℕ, ℤ, ◌≤◌, List, length, refl, sym, ap, ◌∙◌, true, false, cond, Bool, ◌&&◌, ◌||◌, not, Option}
use Rattle.std.proofs.Common.{Some, None, inl, inr, nat_le, rules}
use Rattle.std.specs.Prelude.{is_some, option_map, codes}
use Rattle.std.specs.Cmp.Lexicographic.{same_text}
use Rattle.std.proofs.lemmas.Bool.{le-leb}
use Rattle.std.proofs.lemmas.Slice.Eq.{bytes_eq-Decides}
use Rattle.std.specs.Result.{result_ok}
use Rattle.std.specs.Str.{bytes_eq}
use Rattle.std.specs.declared.result.Result.{Result}
use Rattle.std.specs.declared.result.Result.TheVariants.{Ok, Err}
use Rattle.base64.proofs.EngineFacts.{decode_of_strict}
use Rattle.base64.proofs.OnLiterals.{base64_on_literals}
use Rattle.base64.specs.Engines.{standard}
use Rattle.base64.specs.GeneralPurpose.{IsBytes, decode_of, decoded_of, encode_of}
use Rattle.base64.specs.declared.decode.DecodeError.{DecodeError}
use Rattle.aide_attr.proofs.WalkLemmas.{bool_cases}
use Rattle.aide_fields.specs.Attributes.{digest_in, digest_value, is_different}
use Rattle.aide_fields.specs.Numbers.{number_of}
use Rattle.aide_fields.specs.Values.{begins_number, digest_of, is_nought, of_length, time_of}

pub time_decoded : (field bytes : List ℕ) → begins_number field ≡ false → length field ≤ 44
    → decode_of standard field ≡ Ok bytes → time_of field ≡ number_of bytes
unfolding time_of decoded_of
time_decoded field bytes plain short ok = rw (plain, le-leb (length field) 44 short, ok) refl

pub time_undecoded : (field : List ℕ) (e : DecodeError) → begins_number field ≡ false → decode_of standard field ≡ Err e
    → time_of field ≡ None
unfolding time_of decoded_of
time_undecoded field e plain err =
    rw (plain, err) (elim (nat_le (length field) 44) as (λ b. cond {A = Option ℤ} b None None ≡ None) [ true ↦ refl | false ↦ refl ])

pub is_some-map : {A B : Type 0} (f : A → B) (o : Option A) → is_some (option_map f o) ≡ is_some o
is_some-map f None = refl
is_some-map f (Some x) = refl

nought_no_digest : (least most : ℕ) → digest_of least most (codes "0") ≡ None
unfolding digest_of base64_on_literals
nought_no_digest least most = refl

-- a judged digest is there where the field is not `0`
pub digest_there : (least most : ℕ) (field : List ℕ) → (is_nought field || is_some (digest_of least most field)) ≡ true
    → not (is_nought field) ≡ is_some (option_map digest_value (digest_of least most field))
digest_there least most field judged = by_test (is_nought field) refl judged ∙ sym (is_some-map digest_value (digest_of least most field))
  where
    by_test : (b : Bool) → is_nought field ≡ b → (b || is_some (digest_of least most field)) ≡ true
        → not b ≡ is_some (digest_of least most field)
    by_test true e j =
        sym (ap (λ f. is_some (digest_of least most f)) (same_text field (codes "0") (sym e)) ∙ ap is_some (nought_no_digest least most))
    by_test false e j = sym j

of_length_some : (least most : ℕ) (decoded : Option (List ℕ)) (bytes : List ℕ) → of_length least most decoded ≡ Some bytes
    → decoded ≡ Some bytes
of_length_some least most None bytes e = cc
of_length_some least most (Some text) bytes e = search rules

pub result_some : (r : Result (List ℕ) DecodeError) (bytes : List ℕ) → result_ok r ≡ Some bytes → r ≡ Ok bytes
result_some (Ok text) bytes e = cc
result_some (Err why) bytes e = cc

-- a digest has one text
digest_text : (least most : ℕ) (field bytes : List ℕ) → IsBytes field → digest_of least most field ≡ Some bytes
    → field ≡ encode_of standard bytes
unfolding digest_of decoded_of
digest_text least most field bytes each is = search (rules, decode_of_strict, result_some, of_length_some)

-- a judged digest that is there has its field as its text
pub digest_written : (least most : ℕ) (field : List ℕ) → IsBytes field
    → (is_nought field || is_some (digest_of least most field)) ≡ true → is_nought field ≡ false
    → Some field ≡ option_map (encode_of standard) (digest_in (option_map digest_value (digest_of least most field)))
digest_written least most field each judged filled = by_value (digest_of least most field) refl (rw filled at judged)
  where
    by_value : (x : Option (List ℕ)) → digest_of least most field ≡ x → is_some x ≡ true
        → Some field ≡ option_map (encode_of standard) (digest_in (option_map digest_value x))
    by_value None e some = cc
    by_value (Some bytes) e some = ap Some (digest_text least most field bytes each e)

-- `0` is no text of a digest
pub digest_nought : (least most : ℕ) (field : List ℕ) → is_nought field ≡ true → digest_of least most field ≡ None
digest_nought least most field is =
    ap (digest_of least most) (same_text field (codes "0") (sym is)) ∙ nought_no_digest least most

-- judged digests of different texts differ, where both are there
pub digests_differ : (least most : ℕ) (old new : List ℕ) → IsBytes old → IsBytes new → bytes_eq old new ≡ false
    → (is_nought old || is_some (digest_of least most old)) ≡ true → (is_nought new || is_some (digest_of least most new)) ≡ true
    → (not (is_nought old) && not (is_nought new))
    ≡ is_different (option_map digest_value (digest_of least most old)) (option_map digest_value (digest_of least most new))
digests_differ least most old new old_bytes new_bytes unlike old_judged new_judged = search (rules, digest_there, by_values)
  where
    by_values : (x y : Option (List ℕ)) → digest_of least most old ≡ x → digest_of least most new ≡ y
        → (is_some (option_map digest_value x) && is_some (option_map digest_value y))
        ≡ is_different (option_map digest_value x) (option_map digest_value y)
    by_values None y e f = refl
    by_values (Some x) None e f = refl
    by_values (Some x) (Some y) e f = elim (bool_cases (bytes_eq x y)) [
      | inl same ↦
          let alike : x ≡ y = (bytes_eq-Decides x y).0 same in
          let texts : old ≡ new = digest_text least most old x old_bytes e ∙ ap (encode_of standard) alike
          ∙ sym (digest_text least most new y new_bytes f) in
          cc (unlike, (bytes_eq-Decides old new).1 texts)
      | inr other ↦ rw other refl
    ]
