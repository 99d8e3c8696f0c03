-- The values of fields that are lent or handed out.
use Rattle.std.specs.Prelude.{ℕ, ℤ, ◌≡◌, ◌<◌, ◌≤◌, ◌%◌, ◌==◌, Bool, false, not, Option, Some, None}
use Rattle.std.specs.Prelude.{option_map, List, length, take}
use Rattle.std.specs.Ordering.{int_eq}
use Rattle.percent_encoding.specs.Iter.{decoded_bytes}
use Rattle.percent_encoding.specs.declared.PercentDecode.{PercentDecode}
use Rattle.aide_attr.specs.declared.file_type.FileType.{FileType}
use Rattle.aide_fields.specs.Attributes.{number_of_type, same_link}

-- The decoded bytes are the first ones of the buffer. If no count is returned, there are none, or they do not fit.
abbrev pub IsDecoded : Option (List ℕ) → ℕ → Option ℕ → List ℕ → Type 0
IsDecoded decoded space None buffer = (bytes : List ℕ) → decoded ≡ Some bytes → space < length bytes
IsDecoded decoded space (Some n) buffer = (n ≤ space) × (decoded ≡ Some (take n buffer))

-- the digest is at the beginning of the buffer, if there is one
abbrev pub IsDigest : Option (List ℕ) → Option ℕ → List ℕ → Type 0
IsDigest digest None buffer = digest ≡ None
IsDigest digest (Some n) buffer = (n ≤ 64) × (digest ≡ Some (take n buffer))

-- the bytes of a lent text
abbrev pub lent_link : Option PercentDecode → Option (List ℕ)
lent_link link = option_map decoded_bytes link

-- ---- whether two values differ, if both are there

-- both values are there, and they are not the same
abbrev pub differs_by : {X : Type 0} → (X → X → Bool) → Option X → Option X → Bool
differs_by same None y = false
differs_by same (Some x) None = false
differs_by same (Some x) (Some y) = not (same x y)

-- the numbers are the same
abbrev pub same_number : ℤ → ℤ → Bool
same_number x y = int_eq x y

-- the low twelve bits are the same
abbrev pub same_mode : ℕ → ℕ → Bool
same_mode x y = x % 4096 == y % 4096

-- the types of file are the same
abbrev pub same_type : FileType → FileType → Bool
same_type x y = number_of_type x == number_of_type y

-- both are the same link name, or neither is one
abbrev pub same_link_name : Option (List ℕ) → Option (List ℕ) → Bool
same_link_name x y = same_link x y
