-- The bytes that a feed over a text with escapes still hands out.
use Rattle.std.specs.Prelude.{ℕ, List}
use Rattle.percent_encoding.specs.Iter.{decoded_bytes}
use Rattle.aide_text.specs.declared.decoded.DecodedFeed.{DecodedFeed}

-- the decoded bytes that are still to come
abbrev pub decoded_rest : DecodedFeed → List ℕ
decoded_rest s = decoded_bytes s.bytes
