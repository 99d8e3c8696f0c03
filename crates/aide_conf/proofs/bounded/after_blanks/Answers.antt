use Rattle.std.proofs.Common.{sym, ◌∙◌}
use Rattle.std.proofs.lemmas.List.{take_rest}
use Rattle.aide_conf.specs.Cutting.{is_no_blank}
use Rattle.aide_conf.proofs.Cuts.{first_parts, none_parts, not_in_blanks}
use Rattle.aide_conf.proofs.bounded.after_blanks.Goals as goal

pub returns-in-Some : goal.returns-in-Some
returns-in-Some c =
    let h = c.in-Some.ensures in
    take_rest c.args.bytes.now c.in-Some.start ∙ sym
    (first_parts _ is_no_blank not_in_blanks c.args.bytes.now c.in-Some.start h.0.high h.0.before h.1).1

pub returns-in-None : goal.returns-in-None
returns-in-None c =
    c.as_slice.ensures ∙ sym (none_parts _ is_no_blank not_in_blanks c.args.bytes.now c.in-None.ensures).1
