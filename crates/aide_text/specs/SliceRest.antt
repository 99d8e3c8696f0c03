-- The bytes that a feed over a slice still hands out.
use Rattle.std.specs.Prelude.{ℕ, List}
use Rattle.aide_text.specs.declared.slices.SliceFeed.{SliceFeed}

-- the bytes of the slice that are left
abbrev pub slice_rest : SliceFeed → List ℕ
slice_rest s = s.bytes.now
