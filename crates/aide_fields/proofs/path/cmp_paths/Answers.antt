use Rattle.std.proofs.Common.{ap, ◌∙◌, drop, map, List, ℕ}
use Rattle.std.specs.Ordering.{nat_cmp}
use Rattle.std.specs.Cmp.Lexicographic.{slice_cmp}
use Rattle.percent_encoding.specs.Percent.{percent_decode}
use Rattle.percent_encoding.specs.Iter.{decoded_bytes}
use Rattle.aide_fields.specs.Path.{rank_of}
use Rattle.aide_fields.proofs.CutLemmas.{path_behind}
use Rattle.aide_fields.proofs.path.cmp_paths.Goals as goal

pub returns : goal.returns
returns c =
    let front = c.common_front-front in
    path_behind c.args.x.now c.args.y.now front.result c.cmp_ranks.result front.ensures.left front.ensures.right front.ensures.same
    front.ensures.between
    (c.cmp_ranks.ensures
    ∙ (ap (λ (t : List ℕ). slice_cmp nat_cmp (map rank_of t) (map rank_of (decoded_bytes c.percent_decode-2.result)))
    (c.percent_decode.ensures.bytes ∙ ap percent_decode c.split_at.ensures.back)
    ∙ ap (λ (t : List ℕ). slice_cmp nat_cmp (map rank_of (percent_decode (drop front.result c.args.x.now))) (map rank_of t))
    (c.percent_decode-2.ensures.bytes ∙ ap percent_decode c.split_at-2.ensures.back)))
