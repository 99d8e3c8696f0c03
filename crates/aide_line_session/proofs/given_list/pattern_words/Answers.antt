use Rattle.std.proofs.Common.{rules}
use Rattle.aide_line_session.proofs.given_list.pattern_words.Goals as goal

pub returns-in-OpenClass : goal.returns-in-OpenClass
returns-in-OpenClass c = search rules
