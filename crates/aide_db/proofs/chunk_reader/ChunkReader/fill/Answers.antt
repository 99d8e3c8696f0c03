use Rattle.std.proofs.Common.{rules}
use Rattle.aide_db.proofs.chunk_reader.ChunkReader.fill.Goals as goal

pub returns-in-Ok-clause-hashed : goal.returns-in-Ok-clause-hashed
returns-in-Ok-clause-hashed g c = search rules
