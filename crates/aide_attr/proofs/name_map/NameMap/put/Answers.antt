use Rattle.std.proofs.Common.{rules}
use Rattle.aide_attr.proofs.NameMapLemmas.{insert_name}
use Rattle.aide_attr.proofs.name_map.NameMap.put.Goals as goal

pub returns-clause-ok : goal.returns-clause-ok
returns-clause-ok g c = search (rules, insert_name)
