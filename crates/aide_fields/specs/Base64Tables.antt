-- The tables for decoding base64.
use Rattle.std.specs.Prelude.{ℕ, List, ◌≡◌}
use Rattle.base64.specs.declared.engine.general_purpose.GeneralPurpose.{GeneralPurpose}
use Rattle.base64.specs.Engines.{standard}
use Rattle.base64.specs.GeneralPurpose.{decode_of, decode_slice_of, decoded_bytes_of}

-- this engine decodes each text to the same bytes as the standard engine does, into a list or a slice
unfoldable pub IsStandard : GeneralPurpose → Type 0
IsStandard engine = ((text : List ℕ) → decode_of engine text ≡ decode_of standard text)
    × ((text : List ℕ) → decoded_bytes_of engine text ≡ decoded_bytes_of standard text)
    × ((text : List ℕ) (space : ℕ)
    → decode_slice_of engine text space ≡ decode_slice_of standard text space)
