-- The bytes that a text in base 16 still hands out.
use Rattle.std.specs.Prelude.{ℕ, List, ◌++◌, option_to_list}
use Rattle.hex.specs.Hex.{encode_lower}
use Rattle.aide_json.specs.declared.base16.Base16.{Base16}

-- the second digit of a byte, and the digits of the bytes after it
abbrev pub base16_rest : {B : Type 0} → (B → List ℕ) → Base16 B → List ℕ
base16_rest rest p = option_to_list p.pending ++ encode_lower (rest p.bytes)
