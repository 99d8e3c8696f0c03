use Rattle.std.proofs.Common.{rules}
use Rattle.std.proofs.Common.{sym}
use Rattle.aide_conf.specs.Cutting.{is_blank}
use Rattle.aide_conf.proofs.Cuts.{first_parts, none_parts, in_blanks}
use Rattle.aide_conf.proofs.line.first_word.Goals as goal

pub returns-in-Some : goal.returns-in-Some
returns-in-Some c = search (rules, first_parts, in_blanks)

pub returns-in-None : goal.returns-in-None
returns-in-None c = sym (none_parts _ is_blank in_blanks c.args.bytes.now c.in-None.ensures).0
