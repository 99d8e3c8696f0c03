-- The bytes of a spelling.
use Rattle.std.specs.Prelude.{ℕ, List, drop}
use Rattle.aide_json.specs.declared.spelling.Spelling.{Spelling}

-- those at the end of its six places
abbrev pub spelled : Spelling → List ℕ
spelled spelling = drop spelling.at spelling.bytes
