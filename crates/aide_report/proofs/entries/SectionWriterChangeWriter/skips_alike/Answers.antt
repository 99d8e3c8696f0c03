use Rattle.aide_report.proofs.EntriesLemmas.{alike_text}
use Rattle.aide_report.proofs.entries.SectionWriterChangeWriter.skips_alike.Goals as goal

pub returns : goal.returns
returns c entry = alike_text c.args.self.now.options.now c.args.self.now.contents entry
