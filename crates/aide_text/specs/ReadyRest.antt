-- The bytes that a short text still hands out.
use Rattle.std.specs.Prelude.{ℕ, List, take, drop}
use Rattle.aide_text.specs.declared.ready.Ready.{Ready}

-- the bytes that were not handed out yet
abbrev pub ready_rest : Ready → List ℕ
ready_rest r = drop r.at (take r.len r.bytes)
