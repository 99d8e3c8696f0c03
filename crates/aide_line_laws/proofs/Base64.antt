-- What base 64 decodes to is of bytes.
use Rattle.std.proofs.Common.{◌≡◌, ℕ, zero, suc, ◌+◌, ◌*◌, ◌<◌, List, [], ◌∷◌, ◌++◌, take, drop, slice_index, length, Option, Some, None}
use Rattle.std.proofs.Common.{inl, inr, refl, arith}
use Rattle.std.specs.Prelude.{IfOk}
use Rattle.std.specs.declared.result.Result.{Result}
use Rattle.std.specs.declared.result.Result.TheVariants.{Ok, Err}
use Rattle.std.specs.Result.{result_ok}
use Rattle.base64.specs.Decode.{decode_group, or_else, symbol_error, group_error, group_bytes, groups_error, groups_bytes}
use Rattle.base64.specs.Decode.{groups_before_last, no_leftover, push_leftover, scan_steps, scan_bytes, suffix_bytes, decode_outcome}
use Rattle.base64.specs.Decode.{decoded_bytes, IsDecodeTable}
use Rattle.base64.specs.Engines.{standard}
use Rattle.base64.specs.GeneralPurpose.{decoded_of}
use Rattle.base64.specs.declared.decode.DecodeError.{DecodeError}
use Rattle.base64.proofs.Decoding.{IsLeftover, IsLeftover_next}
use Rattle.base64.proofs.Tables.{are_tables_inverse, IsDecodeTable_from}
use Rattle.aide_line_laws.specs.ByteValues.{AreBytes, AreBytesIfAny}

pub both_bytes : (xs ys : List ℕ) → AreBytes xs → AreBytes ys → AreBytes (xs ++ ys)
both_bytes [] ys h k = k
both_bytes (x ∷ xs) ys h k = (h.0, both_bytes xs ys h.1 k)

drop_bytes : (n : ℕ) (xs : List ℕ) → AreBytes xs → AreBytes (drop n xs)
drop_bytes zero xs h = h
drop_bytes (suc n) [] h = tt
drop_bytes (suc n) (x ∷ xs) h = drop_bytes n xs h.1

take_bytes : (n : ℕ) (xs : List ℕ) → AreBytes xs → AreBytes (take n xs)
take_bytes zero xs h = tt
take_bytes (suc n) [] h = tt
take_bytes (suc n) (x ∷ xs) h = (h.0, take_bytes n xs h.1)

pub byte_at : (xs : List ℕ) (i : ℕ) → AreBytes xs → slice_index xs i < 256
byte_at [] i h = omega arith
byte_at (x ∷ xs) zero h = h.0
byte_at (x ∷ xs) (suc i) h = byte_at xs i h.1

-- no error of either
none_of_both : (a b : Option DecodeError) → or_else a b ≡ None → (a ≡ None) × (b ≡ None)
none_of_both None b e = (refl, e)
none_of_both (Some x) b e = cc

group_of : (a b c d : ℕ) → a < 64 → b < 64 → c < 64 → d < 64 → AreBytes (decode_group a b c d)
group_of a b c d p q r s = (omega arith, (omega arith, (omega arith, tt)))

ok_from : {S : Type 0} (r : Result S DecodeError) (P : S → Type 0) → ((s : S) → r ≡ Ok s → P s) → IfOk r P
ok_from (Ok s) P f = f s refl
ok_from (Err e) P f = tt

module _ (dec : List ℕ) (table : IsDecodeTable dec) where
  symbol_small : (s : List ℕ) (i : ℕ) → AreBytes s → symbol_error dec s i ≡ None → slice_index dec (slice_index s i) < 64
  symbol_small s i h e = elim (table (slice_index s i) (byte_at s i h)) [
    | inr small ↦ small
    | inl bad ↦ cc (rw bad at e)
  ]

  group_small : (s : List ℕ) (i : ℕ) → AreBytes s → group_error dec s i ≡ None → AreBytes (group_bytes dec s i)
  group_small s i h e =
      let a = none_of_both _ _ e in
      let b = none_of_both _ _ a.1 in
      let c = none_of_both _ _ b.1 in
      group_of _ _ _ _ (symbol_small s i h a.0) (symbol_small s (i + 1) h b.0) (symbol_small s (i + 2) h c.0) (symbol_small s (i + 3) h c.1)

  groups_small : (s : List ℕ) (q : ℕ) → AreBytes s → groups_error dec s q ≡ None → AreBytes (groups_bytes dec s q)
  unfolding groups_error groups_bytes
  groups_small s zero h e = tt
  groups_small s (suc q) h e =
      let both = none_of_both _ _ e in
      both_bytes (groups_bytes dec s q) (group_bytes dec s (4 * q)) (groups_small s q h both.0) (group_small s (4 * q) h both.1)

  -- the bytes of the symbols that a scan keeps
  scan_small : (pad at i : ℕ) (r : Result _ DecodeError) (bs : List ℕ) → AreBytes bs → IfOk r (λ st. IsLeftover st i)
      → AreBytes (scan_bytes (scan_steps dec pad at r i bs))
  unfolding scan_steps
  scan_small pad at i (Err e) bs h k = tt
  scan_small pad at i (Ok st) [] h k = take_bytes _ _ (group_of _ _ _ _ (k.3 0) (k.3 1) (k.3 2) (k.3 3))
  scan_small pad at i (Ok st) (b ∷ bs) h k =
      let next = push_leftover dec pad at st i b in
      scan_small pad at (i + 1) next bs h.1
      (ok_from next (λ kept. IsLeftover kept (i + 1)) (λ kept e. IsLeftover_next dec pad at st i b kept table k h.0 e))

  zeros : (k : ℕ) → slice_index (0 ∷ 0 ∷ 0 ∷ 0 ∷ []) k < 64
  zeros zero = omega arith
  zeros (suc zero) = omega arith
  zeros (suc (suc zero)) = omega arith
  zeros (suc (suc (suc zero))) = omega arith
  zeros (suc (suc (suc (suc k)))) = omega arith

  suffix_small : (pad at : ℕ) (s : List ℕ) → AreBytes s → AreBytes (suffix_bytes dec pad at s)
  suffix_small pad at s h =
      scan_small pad at 0 (Ok no_leftover) (drop at s) (drop_bytes at s h) (omega arith, omega arith, omega arith, zeros)

  outcome_bytes : (error : Option DecodeError) (bytes : List ℕ) → (error ≡ None → AreBytes bytes)
      → AreBytesIfAny (result_ok (decode_outcome error bytes))
  outcome_bytes None bytes h = h refl
  outcome_bytes (Some e) bytes h = tt

pub base64_bytes : (s : List ℕ) → AreBytes s → AreBytesIfAny (decoded_of standard s)
unfolding decoded_of
base64_bytes s h =
    let dec = standard.decode_table in
    let table =
    IsDecodeTable_from standard.encode_table dec
    (are_tables_inverse standard.encode_table dec standard.padding.value standard.tables) in
    outcome_bytes dec table _ (decoded_bytes dec standard.padding.value s) (λ e.
    let late = none_of_both _ _ (none_of_both _ _ e).1 in
    both_bytes (groups_bytes dec s (groups_before_last (length s))) _ (groups_small dec table s (groups_before_last (length s)) h late.0)
    (suffix_small dec table standard.padding.value (4 * groups_before_last (length s)) s h))
