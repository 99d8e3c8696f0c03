-- The bytes that a printed text still hands out.
use Rattle.std.specs.Prelude.{ℕ, List, ◌++◌, drop}
use Rattle.aide_text.specs.Printed.{printed}
use Rattle.aide_text.specs.declared.feed.Printed.{Printed}

-- the rest of an escape, and the printed bytes after it
abbrev pub printed_rest : {B : Type 0} → (B → List ℕ) → Printed B → List ℕ
printed_rest rest p = drop p.at p.pending ++ printed (rest p.bytes)
