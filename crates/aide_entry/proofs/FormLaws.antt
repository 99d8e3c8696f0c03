-- Which kind of value an attribute has, by its form.
use Rattle.std.proofs.Common.{◌≡◌, ℕ, List, refl, Option, Some, None, rules}
use Rattle.std.specs.Prelude.{option_map, nat_abs, ℤ}
use Rattle.aide_attr.specs.Attr.{form_of}
use Rattle.aide_attr.specs.declared.attr.Attr.{Attr}
use Rattle.aide_attr.specs.declared.file_type.FileType.{FileType}
use Rattle.aide_attr.specs.declared.form.Form.TheVariants.{Kind, Mode, Number, Time, Link, Digest, Opaque}
use Rattle.aide_fields.specs.Attributes.{number_value, mode_value, type_value, link_value, digest_value, opaque_value}
use Rattle.aide_fields.specs.Attributes.{number_in, type_in, link_in, digest_in, opaque_in}
use Rattle.aide_fields.specs.Numbers.{mode_of, number_of}
use Rattle.aide_fields.specs.Values.{type_of_mode, time_of, digest_of}
use Rattle.aide_entry.specs.Entry.{attributes_of, field_of, value_in}
use Rattle.aide_entry.specs.declared.column.Column.{Column}

numbers_kept : (o : Option ℤ)
    → option_map number_value o ≡ option_map number_value (number_in (option_map number_value o))
numbers_kept None = refl
numbers_kept (Some n) = refl

types_kept : (o : Option FileType) → option_map type_value o ≡ option_map type_value (type_in (option_map type_value o))
types_kept None = refl
types_kept (Some kind) = refl

digests_kept : (o : Option (List ℕ))
    → option_map digest_value o ≡ option_map digest_value (digest_in (option_map digest_value o))
digests_kept None = refl
digests_kept (Some bytes) = refl

kind_kept : (field : Option (List ℕ)) → value_in Kind field ≡ option_map type_value (type_in (value_in Kind field))
kind_kept None = refl
kind_kept (Some field) = types_kept (type_of_mode (mode_of field))

number_kept : (field : Option (List ℕ))
    → value_in Number field ≡ option_map number_value (number_in (value_in Number field))
number_kept None = refl
number_kept (Some field) = numbers_kept (number_of field)

time_kept : (field : Option (List ℕ)) → value_in Time field ≡ option_map number_value (number_in (value_in Time field))
time_kept None = refl
time_kept (Some field) = numbers_kept (time_of field)

mode_kept : (field : Option (List ℕ))
    → value_in Mode field ≡ option_map (λ mode. mode_value (nat_abs mode)) (number_in (value_in Mode field))
mode_kept None = refl
mode_kept (Some field) = search rules

link_kept : (field : Option (List ℕ)) → value_in Link field ≡ option_map link_value (link_in (value_in Link field))
link_kept None = refl
link_kept (Some field) = refl

digest_kept : (least most : ℕ) (field : Option (List ℕ))
    → value_in (Digest least most) field ≡ option_map digest_value (digest_in (value_in (Digest least most) field))
digest_kept least most None = refl
digest_kept least most (Some field) = digests_kept (digest_of least most field)

opaque_kept : (field : Option (List ℕ))
    → value_in Opaque field ≡ option_map opaque_value (opaque_in (value_in Opaque field))
opaque_kept None = refl
opaque_kept (Some field) = search rules

-- of each form, what a view answers is the value
module _ (columns : List Column) (line : List ℕ) (attr : Attr) where
  pub kind_answers : form_of attr ≡ Kind
      → attributes_of columns line attr ≡ option_map type_value (type_in (attributes_of columns line attr))
  kind_answers e = rw e (kind_kept (field_of columns line attr))

  pub number_answers : form_of attr ≡ Number
      → attributes_of columns line attr ≡ option_map number_value (number_in (attributes_of columns line attr))
  number_answers e = rw e (number_kept (field_of columns line attr))

  pub time_answers : form_of attr ≡ Time
      → attributes_of columns line attr ≡ option_map number_value (number_in (attributes_of columns line attr))
  time_answers e = rw e (time_kept (field_of columns line attr))

  pub mode_answers : form_of attr ≡ Mode
      → attributes_of columns line attr ≡ option_map (λ mode. mode_value (nat_abs mode)) (number_in (attributes_of columns line attr))
  mode_answers e = rw e (mode_kept (field_of columns line attr))

  pub link_answers : form_of attr ≡ Link
      → attributes_of columns line attr ≡ option_map link_value (link_in (attributes_of columns line attr))
  link_answers e = rw e (link_kept (field_of columns line attr))

  pub digest_answers : (least most : ℕ) → form_of attr ≡ Digest least most
      → attributes_of columns line attr ≡ option_map digest_value (digest_in (attributes_of columns line attr))
  digest_answers least most e = rw e (digest_kept least most (field_of columns line attr))

  pub opaque_answers : form_of attr ≡ Opaque
      → attributes_of columns line attr ≡ option_map opaque_value (opaque_in (attributes_of columns line attr))
  opaque_answers e = rw e (opaque_kept (field_of columns line attr))
