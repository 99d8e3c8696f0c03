use Rattle.std.proofs.Common.{rules}
use Rattle.std.proofs.lemmas.List.{length-take, length-drop}
use Rattle.aide_db.proofs.ChunkReaderLemmas.{skipped}
use Rattle.aide_db.proofs.chunk_reader.ChunkReader.skip.Goals as goal

pub returns-clause-ahead : goal.returns-clause-ahead
returns-clause-ahead g c = search (rules, skipped, length-take, length-drop)
