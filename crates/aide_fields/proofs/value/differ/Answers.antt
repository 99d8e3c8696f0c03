use Rattle.std.proofs.Common.{rules}
use Rattle.aide_fields.proofs.FieldForms.{digests_differ}
use Rattle.aide_fields.proofs.value.differ.Goals as goal

pub returns-in-Digest : goal.returns-in-Digest
returns-in-Digest c = search (rules, digests_differ)

pub times_differ-requires-clause-old : goal.times_differ-requires-clause-old
times_differ-requires-clause-old c = rw c.in-Time.is at c.requires.old

pub times_differ-requires-clause-new : goal.times_differ-requires-clause-new
times_differ-requires-clause-new c = rw c.in-Time.is at c.requires.new
