-- Bytes that are kept up to a limit. However many bytes come, no more than the limit is kept.
use Rattle.std.specs.Prelude.{ℕ, ◌≡◌, ◌==◌, Bool, true, false, not, ◌&&◌, List, ◌++◌, length, take}
use Rattle.std.specs.Prelude.{drop, if◌then◌else◌}
use Rattle.aide_conf.specs.declared.bounded.Bounded.{Bounded}
use Rattle.aide_conf.specs.Cutting.{is_no_blank, bytes_from}

-- the bytes that are kept, and whether there were more
pub record Kept : Type 0 where
  pub bytes : List ℕ
  pub over : Bool

-- the bytes of a text that count: of a line, those from the first one that is no blank on
abbrev pub counting : Bool → List ℕ → List ℕ
counting true text = bytes_from is_no_blank text
counting false text = text

-- whether there is a byte that counts; past the limit, blanks of a line do not
abbrev pub are_over : Bool → List ℕ → Bool
are_over is_line bytes = not (length (counting is_line bytes) == 0)

-- what is kept of a text
abbrev pub kept_of : ℕ → Bool → List ℕ → Kept
kept_of limit is_line text = record {
  bytes = take limit (counting is_line text);
  over = are_over is_line (drop limit (counting is_line text));
}

-- the new bytes from the first one that counts on, if these are kept already
abbrev pub from_first : Bool → List ℕ → List ℕ → List ℕ
from_first is_line bytes more =
    if is_line && (length bytes == 0) then bytes_from is_no_blank more else more

-- the bytes that are kept so far, and whether there were more
abbrev pub kept_by : {A : Type 0} → Bounded A → Kept
kept_by b = record { bytes = b.bytes.items; over = b.over }

-- More bytes have been taken, under the same limit. If what was kept before was that of a text, it
-- is now that of the text with these bytes.
pub record HasTaken {A : Type 0} (earlier : Bounded A) (bytes : List ℕ) (later : Bounded A)
    : Type 0 where
  pub limit : later.limit ≡ earlier.limit
  pub is_line : later.is_line ≡ earlier.is_line
  pub kept : (text : List ℕ) → kept_by earlier ≡ kept_of earlier.limit earlier.is_line text
      → kept_by later ≡ kept_of earlier.limit earlier.is_line (text ++ bytes)
