use Rattle.std.proofs.Common.{rules}
use Rattle.aide_fields.proofs.FieldForms.{digest_nought, digest_written}
use Rattle.aide_fields.proofs.value.written_digest.Goals as goal

pub returns-in-Digest : goal.returns-in-Digest
returns-in-Digest c = search (rules, digest_nought)

pub returns-in-Digest-2 : goal.returns-in-Digest-2
returns-in-Digest-2 c = search (rules, digest_written)
