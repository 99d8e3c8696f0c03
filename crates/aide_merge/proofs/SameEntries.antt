-- An entry does not differ from itself.
use Rattle.std.proofs.Common.{◌≡◌, ◌∙◌, refl, ap, true, false, Bool, ◌&&◌, ◌||◌, not}
use Rattle.std.specs.Prelude.{Some, is_some}
use Rattle.aide_attr.specs.Attr.{all_attrs}
use Rattle.aide_attr.specs.Difference.{is_reported, is_shown, shown_at}
use Rattle.aide_attr.specs.Set.{has}
use Rattle.aide_agreement.proofs.ListLemmas.{none_of}
use Rattle.aide_attr.specs.declared.attr.Attr.{Attr}
use Rattle.aide_attr.specs.declared.delta.Ignore.{Ignore}
use Rattle.aide_attr.specs.declared.level.Level.{Level}
use Rattle.aide_fields.specs.Attributes.{Attributes, Entry, sides_between, is_different}
use Rattle.aide_fields.proofs.ValueLaws.{never_different}
use Rattle.aide_conf.specs.declared.options.Options.{Options}
use Rattle.aide_text.specs.declared.section.Contents.{Contents}
use Rattle.aide_text.specs.declared.section.Contents.TheVariants.{Listed, Detailed}
use Rattle.aide_merge.specs.code.ChangeView.{alike_of}
use Rattle.aide_merge.specs.Changed.{differ_by}
use Rattle.aide_merge.specs.Said.{shows_any, shows_at}
use Rattle.aide_merge.specs.Said.{is_in}

none_bool : (d b i j k : Bool) → d ≡ false
    → ((((d && b && b) && i) || ((b && not b) && j)) || ((b && not b) && k)) ≡ false
none_bool d true i j k e = rw e refl
none_bool d false i j k e = rw e refl

none_reported : (i : Ignore) (old : Attributes) (a : Attr) → is_reported (sides_between old old) i a ≡ false
none_reported i old a =
    none_bool (is_different (old a) (old a)) (is_some (old a)) (not (has i.changed a)) (not (has i.added a)) (not (has i.removed a))
    (never_different (old a))

pub never_differs : (i : Ignore) (old new : Attributes) → old ≡ new → differ_by i old new ≡ false
unfolding differ_by
never_differs i old new e = rw (← e) (none_of (is_reported (sides_between old old) i) (none_reported i old) all_attrs)

pub never_shown : (i : Ignore) (level : Level) (a : Attr) (old new : Attributes) → old ≡ new
    → is_shown (sides_between old new) i level a ≡ false
unfolding differ_by
never_shown i level a old new e = ap (λ b. b && shown_at (sides_between old new) i level a) (never_differs i old new e)

-- so no contents have it
pub shows_nothing : (options : Options) (old : Attributes) → shows_any options (Some old, Some old) ≡ false
unfolding shows_any
shows_nothing options old = none_of (shows_at options (Some old, Some old))
    (λ a. never_shown options.ignore options.level a old old refl) all_attrs

pub and_no : (b : Bool) → b && false ≡ false
and_no true = refl
and_no false = refl

-- none of three
pub nowhere : (x y z : Bool) → x ≡ false → y ≡ false → z ≡ false → (x || (y || z)) ≡ false
nowhere x y z p q r = rw (p, q, r) refl

pub in_none : (options : Options) (contents : Contents) (entry : Entry) → is_in options contents (alike_of entry) ≡ false
in_none options (Listed added removed changed) entry =
    nowhere (added && false) (removed && false) (changed && differ_by options.ignore entry.1 entry.1) (and_no added) (and_no removed)
    (ap (λ b. changed && b) (never_differs options.ignore entry.1 entry.1 refl) ∙ and_no changed)
in_none options Detailed entry = shows_nothing options entry.1
