use Rattle.std.proofs.Common.{rules}
use Rattle.std.proofs.lemmas.Bool.{leb-true, leb-false}
use Rattle.aide_attr.proofs.NameMapLemmas.{len_names, is_none}
use Rattle.aide_attr.proofs.name_map.NameMap.is_full.Goals as goal

pub returns-clause-yes : goal.returns-clause-yes
returns-clause-yes g c = search (rules, is_none, len_names, leb-true)

pub returns-clause-no : goal.returns-clause-no
returns-clause-no g c = search (rules, len_names, leb-false)
