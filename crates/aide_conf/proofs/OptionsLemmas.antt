-- What options have at each switch and at each set of attributes. The last line of a lemma by cases, with `_`, stands
-- for every further one of them.
use Rattle.std.proofs.Common.{◌≡◌, Bool, refl, sym, ap, ◌∙◌}
use Rattle.std.proofs.Math.Path.{fun_ext}
use Rattle.aide_attr.specs.declared.attr.Attr.{Attr}
use Rattle.aide_attr.specs.declared.set.AttrSet.{AttrSet}
use Rattle.aide_attr.specs.declared.level.Level.{Level}
use Rattle.aide_attr.specs.Set.{has}
use Rattle.aide_attr.proofs.SetLemmas.{same_set}
use Rattle.aide_conf.specs.declared.options.Options.{Options}
use Rattle.aide_conf.specs.declared.options.Switch.{Switch}
use Rattle.aide_conf.specs.declared.options.Switch.TheVariants.{Grouped}
use Rattle.aide_conf.specs.declared.options.AttrList.{AttrList}
use Rattle.aide_conf.specs.declared.options.AttrList.TheVariants.{IgnoreAdded}
use Rattle.aide_conf.specs.Options.{switch_of, attrs_of, options_of}

-- options have the values from which they are made
pub made_switch : (level : Level) (switch : Switch → Bool) (attrs : AttrList → AttrSet) (s : Switch)
    → switch_of (options_of level switch attrs) s ≡ switch s
made_switch level switch attrs Grouped = refl
made_switch level switch attrs _ = refl

pub made_attrs : (level : Level) (switch : Switch → Bool) (attrs : AttrList → AttrSet) (l : AttrList)
    → attrs_of (options_of level switch attrs) l ≡ attrs l
made_attrs level switch attrs IgnoreAdded = refl
made_attrs level switch attrs _ = refl

-- options are made from the values that they have
made_again : (o : Options) → options_of o.level (switch_of o) (attrs_of o) ≡ o
made_again o = refl

-- options with the same values are the same
pub same_options : (o q : Options) → o.level ≡ q.level → ((s : Switch) → switch_of o s ≡ switch_of q s)
    → ((l : AttrList) (a : Attr) → has (attrs_of o l) a ≡ has (attrs_of q l) a) → o ≡ q
same_options o q level switches attrs =
    sym (made_again o) ∙ ap (λ z. options_of z (switch_of o) (attrs_of o)) level
    ∙ ap (λ z. options_of q.level z (attrs_of o)) (fun_ext switches)
    ∙ ap (λ z. options_of q.level (switch_of q) z) (fun_ext (λ l. same_set _ _ (attrs l))) ∙ made_again q
