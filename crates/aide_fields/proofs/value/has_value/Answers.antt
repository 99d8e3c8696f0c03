use Rattle.std.proofs.Common.{sym, ◌∙◌, ◌%◌, rules}
use Rattle.aide_fields.specs.Attributes.{number_value, mode_value}
use Rattle.aide_fields.specs.Numbers.{mode_of, number_of}
use Rattle.aide_fields.specs.Values.{time_of}
use Rattle.aide_fields.proofs.FieldForms.{is_some-map, digest_there}
use Rattle.aide_fields.proofs.value.has_value.Goals as goal

pub returns-in-Mode : goal.returns-in-Mode
returns-in-Mode c =
    rw c.in-Mode.is (sym (is_some-map (λ mode. mode_value (mode % 4096)) (mode_of c.args.field.now) ∙ rw c.in-Mode.is at c.requires))

pub returns-in-Number : goal.returns-in-Number
returns-in-Number c = rw c.in-Number.is (sym (is_some-map number_value (number_of c.args.field.now) ∙ rw c.in-Number.is at c.requires))

pub returns-in-Time : goal.returns-in-Time
returns-in-Time c = rw c.in-Time.is (sym (is_some-map number_value (time_of c.args.field.now) ∙ rw c.in-Time.is at c.requires))

pub returns-in-Digest : goal.returns-in-Digest
returns-in-Digest c = search (rules, digest_there)
