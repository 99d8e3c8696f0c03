-- The order of paths.
use Rattle.std.specs.Prelude.{ℕ, ◌+◌, ◌<◌, ◌≤◌, ◌≡◌, ◌==◌, false, if◌then◌else◌, List, slice_index}
use Rattle.std.specs.declared.cmp.Ordering.{Ordering}
use Rattle.std.specs.List.{slice_split}
use Rattle.std.specs.Ordering.{nat_cmp}
use Rattle.std.specs.Cmp.Lexicographic.{slice_cmp}
use Rattle.aide_fields.specs.Text.{is_slash}

-- the components of a path, between its slashes
abbrev pub pieces : List ℕ → List (List ℕ)
pieces path = slice_split is_slash path

-- the order of paths: lexicographic by their components, and each component by its bytes
unfoldable pub path_cmp : List ℕ → List ℕ → Ordering
path_cmp x y = slice_cmp (slice_cmp nat_cmp) (pieces x) (pieces y)

-- the rank of a byte in the order of paths; the slash comes before every other byte
abbrev pub rank_of : ℕ → ℕ
rank_of byte = if byte == 47 then 0 else byte + 1

-- Neither of the two bytes before an index is the first byte of an escape, so no escape reaches over it.
abbrev pub IsBetweenEscapes : List ℕ → ℕ → Type 0
IsBetweenEscapes text at = (k : ℕ) → k < at → at ≤ k + 2 → (slice_index text k == 37) ≡ false
