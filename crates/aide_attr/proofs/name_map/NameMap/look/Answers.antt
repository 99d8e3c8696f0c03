use Rattle.std.proofs.Common.{ap, sym, ◌∙◌}
use Rattle.std.specs.FinMap.{get}
use Rattle.aide_attr.proofs.NameMapLemmas.{get_name}
use Rattle.aide_attr.proofs.name_map.NameMap.look.Goals as goal

pub returns : goal.returns
returns g c =
    c.get.ensures.value ∙ sym (get_name c.self.inside.values.entries c.args.name.now) ∙ ap (λ m. get m c.args.name.now) c.self.view_is
