use Rattle.aide_text.proofs.slices.SliceFeedFeed.next_byte.Goals as goal

pub returns-in-Some : goal.returns-in-Some
returns-in-Some c = c.in-Some.ensures.cases.0
