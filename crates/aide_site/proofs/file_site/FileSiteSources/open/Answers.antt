use Rattle.std.proofs.Common.{rules}
use Rattle.aide_site.proofs.file_site.FileSiteSources.open.Goals as goal

pub returns-in_default-clause-opens : goal.returns-in_default-clause-opens
returns-in_default-clause-opens c = search rules

pub returns-in_default-clause-refused : goal.returns-in_default-clause-refused
returns-in_default-clause-refused c = search rules

pub returns-clause-opens : goal.returns-clause-opens
returns-clause-opens c = search rules
