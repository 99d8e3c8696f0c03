use Rattle.aide_line_text.specs.code.Parts.{entry_head}
use Rattle.aide_text.proofs.Sheets.{wrote_more}
use Rattle.aide_line_text.proofs.entry.put_head.Goals as goal

pub returns : goal.returns
unfolding entry_head
returns g c =
    wrote_more c.put.ensures (wrote_more c.put_word_member.ensures (wrote_more c.put-2.ensures
    (wrote_more c.put_text_member.ensures (wrote_more c.put-3.ensures c.put_word_member-2.ensures))))
