-- What decoding base64 into a buffer answers, against what the text decodes to.
use Rattle.std.proofs.Common.{◌≡◌, ℕ, ◌/◌, ◌<◌, ◌≤◌, List, length, refl, true, false}
use Rattle.std.proofs.Common.{cond, Bool, Option, Some, None, Ok, Err, nat_lt, rules}
use Rattle.std.specs.Result.{result_ok}
use Rattle.std.proofs.lemmas.Bool.{ltb-false, ltb-true}
use Rattle.std.proofs.lemmas.List.{length-append, take_at}
use Rattle.base64.specs.declared.decode.DecodeError.{DecodeError}
use Rattle.base64.specs.declared.decode.DecodeSliceError.{DecodeSliceError}
use Rattle.base64.specs.declared.decode.DecodeSliceError.TheVariants.{OutputSliceTooSmall}
use Rattle.base64.specs.Engines.{standard}
use Rattle.base64.specs.Decode.{or_else, or_error, bytes_fit, decode_outcome}
use Rattle.base64.specs.Decode.{groups_before_last, IsWrittenOver}
use Rattle.base64.specs.GeneralPurpose.{decoded_of, decode_slice_of, decoded_bytes_of}
use Rattle.base64.proofs.Decoding.{length-groups_bytes}
use Rattle.aide_fields.specs.Lent.{IsDecoded}

-- with what is wrong with the text, and the bytes that it gives otherwise
slice_ok : (single more : Option DecodeError) (small : Bool) (space m n : ℕ)
    → or_error single (cond small (Err OutputSliceTooSmall) (or_error more (bytes_fit m space))) ≡ Ok n
    → (or_else single more ≡ None) × (m ≡ n) × (n ≤ space)
slice_ok None None false space m n e = search (rules, ltb-false)
slice_ok None (Some d) false space m n e = cc
slice_ok (Some d) more small space m n e = cc
slice_ok None _ true space m n e = cc

outcome : (single more : Option DecodeError) (bytes : List ℕ) → or_else single more ≡ None
    → result_ok (decode_outcome (or_else single more) bytes) ≡ Some bytes
outcome single more bytes e = rw e refl

slice_err : (single more : Option DecodeError) (space q : ℕ) (bytes b : List ℕ) (e : DecodeSliceError)
    → (space / 3 < q → space < length bytes)
    → or_error single (cond (nat_lt (space / 3) q) (Err OutputSliceTooSmall) (or_error more (bytes_fit (length bytes) space))) ≡ Err e
    → result_ok (decode_outcome (or_else single more) bytes) ≡ Some b → space < length b
slice_err None None space q bytes b e long is some = search (rules, ltb-true)
slice_err None (Some d) space q bytes b e long is some = cc
slice_err (Some d) more space q bytes b e long is some = cc

-- the groups before the last one alone are too long
groups_long : (s : List ℕ) (space : ℕ) → space / 3 < groups_before_last (length s)
    → space < length (decoded_bytes_of standard s)
groups_long s space h = search (rules, length-append, length-groups_bytes)

pub decoded_ok : (s old new : List ℕ) (space n : ℕ) → decode_slice_of standard s space ≡ Ok n
    → IsWrittenOver (decoded_bytes_of standard s) old new → IsDecoded (decoded_of standard s) space (Some n) new
unfolding decoded_of
decoded_ok s old new space n ok written = search (rules, slice_ok, take_at, outcome)

pub decoded_err : (s new : List ℕ) (space : ℕ) (e : DecodeSliceError) → decode_slice_of standard s space ≡ Err e
    → IsDecoded (decoded_of standard s) space None new
unfolding decoded_of
decoded_err s new space e err b some = search (rules, slice_err, groups_long)
