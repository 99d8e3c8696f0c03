-- The bytes that an escaped text still hands out.
use Rattle.std.specs.Prelude.{ℕ, List, ◌++◌, drop}
use Rattle.aide_json.specs.code.Escaping.{text_after, Nothing}
use Rattle.aide_json.specs.declared.escaped.Escaped.{Escaped}

-- the rest of a spelling, and what is written for the bytes after it
abbrev pub escaped_rest : {B : Type 0} → (B → List ℕ) → Escaped B → List ℕ
escaped_rest rest p = drop p.at p.pending ++ text_after Nothing (rest p.bytes)
