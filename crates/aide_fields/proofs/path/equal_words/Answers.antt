use Rattle.std.proofs.Common.{sym, ◌∙◌}
use Rattle.aide_fields.proofs.CutLemmas.{front_more, same_word}
use Rattle.aide_fields.proofs.path.equal_words.Goals as goal

pub words-preserved : goal.words-preserved
words-preserved c = record {
  some = c.words.invariant.some;
  front = front_more c.args.x.now c.args.y.now c.words.left.now c.words.right.now _ _ c.words.count c.args.size c.words.invariant.front
      c.split_at.ensures.back c.split_at-in-words.ensures.back c.words-test.true c.if-right-size.true
      (sym c.split_at.ensures.front ∙ (same_word c.split_at.result.0.now c.split_at-in-words.result.0.now c.if-ne.ensures
      ∙ c.split_at-in-words.ensures.front));
}
