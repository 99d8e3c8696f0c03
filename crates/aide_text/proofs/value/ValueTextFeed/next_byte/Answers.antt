use Rattle.aide_text.proofs.value.ValueTextFeed.next_byte.Goals as goal

pub returns-in-Link : goal.returns-in-Link
returns-in-Link g c = rw c.in-Link.is c.next_byte-in-Link.ensures
