-- The database that a trusted pair has on each side if the arguments name none.
use Rattle.std.specs.Prelude.{ℕ, List, codes}

-- the text of a database without entries
unfoldable pub empty_database : List ℕ
empty_database = codes "@@begin_db\n@@db_spec name attr\n@@end_db\n"
