use Rattle.std.proofs.Common.{rules}
use Rattle.aide_entry.proofs.JudgedFields.{judged_field}
use Rattle.aide_entry.proofs.view.View.digest_text.Goals as goal

pub written_digest-requires : goal.written_digest-requires
written_digest-requires c = search (rules, judged_field)
