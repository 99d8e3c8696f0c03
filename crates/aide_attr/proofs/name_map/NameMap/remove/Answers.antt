use Rattle.std.proofs.Common.{rules}
use Rattle.aide_attr.proofs.NameMapLemmas.{remove_name}
use Rattle.aide_attr.proofs.name_map.NameMap.remove.Goals as goal

pub returns : goal.returns
returns g c = search (rules, remove_name)
