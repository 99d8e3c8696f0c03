use Rattle.std.proofs.Common.{refl}
use Rattle.aide_line_session.specs.GivenList.{list_line}
use Rattle.aide_site.proofs.PutLemmas.{put_written}
use Rattle.aide_text.proofs.Sheets.{wrote_as, wrote_more}
use Rattle.aide_line_session.proofs.given_list.put_list_line.Goals as goal

pub returns : goal.returns
unfolding list_line
returns g c =
    put_written _ _ _ c.new-pen.result c.new-pen.ensures refl
    (wrote_more c.put.ensures (wrote_more c.put_number.ensures
    (wrote_more c.put-2.ensures (wrote_more (wrote_as c.list_words.ensures c.put-3.ensures) c.put-4.ensures))))
