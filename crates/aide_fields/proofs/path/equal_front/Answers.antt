use Rattle.aide_fields.proofs.CutLemmas.{byte_more, front_more}
use Rattle.aide_fields.proofs.path.equal_front.Goals as goal

pub bytes-preserved : goal.bytes-preserved
bytes-preserved c =
    byte_more c.args.x.now c.args.y.now c.bytes.left.now c.bytes.right.now _ _ c.bytes.count c.in-Some.byte.now
    c.in-Some-split_first.other_byte.now c.bytes.invariant c.in-Some.ensures.cases.0 c.in-Some-split_first.ensures.cases.0
    c.if-byte-other_byte.false

pub bytes-init : goal.bytes-init
bytes-init c =
    front_more c.args.x.now c.args.y.now c.split_at.result.1.now c.split_at-2.result.1.now _ _ c.equal_words-far.result
    c.equal_words-near.result
    (record {
      left_at = c.split_at.ensures.back;
      right_at = c.split_at-2.ensures.back;
      left_in = c.equal_words-far.ensures.left;
      right_in = c.equal_words-far.ensures.right;
      same = c.equal_words-far.ensures.same;
    })
    c.split_at-3.ensures.back c.split_at-4.ensures.back c.equal_words-near.ensures.left c.equal_words-near.ensures.right
    c.equal_words-near.ensures.same
