use Rattle.std.proofs.Common.{rules}
use Rattle.aide_site.proofs.file_site.FileSiteSources.close.Goals as goal

pub returns-in-File-clause-adds : goal.returns-in-File-clause-adds
returns-in-File-clause-adds c = search rules
