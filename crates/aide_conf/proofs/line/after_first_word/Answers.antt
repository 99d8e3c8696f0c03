use Rattle.std.proofs.Common.{refl}
use Rattle.std.proofs.lemmas.List.{take_rest}
use Rattle.std.proofs.Math.Seq.{drop-length}
use Rattle.aide_conf.specs.Cutting.{is_blank}
use Rattle.aide_conf.proofs.Cuts.{first_parts, none_parts, in_blanks}
use Rattle.aide_conf.proofs.line.after_first_word.Goals as goal

pub returns-in-Some : goal.returns-in-Some
returns-in-Some c =
    let h = c.in-Some.ensures in
    let i = first_parts _ is_blank in_blanks c.args.bytes.now c.in-Some.end h.0.high h.0.before h.1 in
    rw (take_rest, i.2) refl

pub returns-in-None : goal.returns-in-None
returns-in-None c =
    let i = none_parts _ is_blank in_blanks c.args.bytes.now c.in-None.ensures in
    rw (take_rest, i.2) (drop-length c.args.bytes.now)
