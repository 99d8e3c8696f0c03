use Rattle.std.proofs.Common.{◌∙◌, ap, refl}
use Rattle.std.specs.List.{filter}
use Rattle.aide_attr.specs.Attr.{all_attrs}
use Rattle.aide_attr.specs.Set.{has}
use Rattle.aide_json.proofs.ItemLemmas.{items_as, texts_mapped}
use Rattle.aide_json.specs.Object.{array, joined}
use Rattle.aide_json.specs.Value.{print}
use Rattle.aide_line_text.specs.Settings.{attr_word}
use Rattle.aide_text.proofs.Sheets.{wrote_more, wrote_as}
use Rattle.aide_line_text.proofs.names.put_set.Goals as goal

pub returns : goal.returns
unfolding array
returns g c =
    let has_it = has c.args.set in
    wrote_more c.put.ensures (wrote_more (wrote_as (items_as has_it (λ a. print (attr_word a)) has_it all_attrs (λ a. refl)
    ∙ ap joined (texts_mapped attr_word (filter has_it all_attrs))) c.put_names.ensures) c.put-2.ensures)
