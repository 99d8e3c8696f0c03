use Rattle.aide_text.proofs.value.octal.Goals as goal

pub returns : goal.returns
returns c = cc
