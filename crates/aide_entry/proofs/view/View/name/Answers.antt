use Rattle.aide_entry.proofs.view.View.name.Goals as goal

pub returns-clause-field : goal.returns-clause-field
returns-clause-field c = c.name_of-name.ensures

pub returns-clause-path : goal.returns-clause-path
returns-clause-path c = rw c.name_of-name.ensures at c.percent_decode.ensures.bytes
