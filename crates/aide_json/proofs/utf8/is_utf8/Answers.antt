use Rattle.std.proofs.Common.{◌∙◌, sym, false, rules}
use Rattle.aide_json.proofs.FollowsLemmas.{by_answer, at_end, at_fault}
use Rattle.aide_json.proofs.utf8.is_utf8.Goals as goal

pub returns-in-None : goal.returns-in-None
returns-in-None g c = search (rules, by_answer, at_end)

pub returns-then-not-may_follow : goal.returns-then-not-may_follow
returns-then-not-may_follow g c =
    by_answer (g.B.Feed.rest c.args.text) false
    (at_fault (g.B.Feed.rest c.args.text) (g.B.Feed.rest c.bytes.text)
    (g.B.Feed.rest c.next_byte.new.self) c.bytes.x c.bytes.y c.bytes.z c.in-Some.c c.bytes.invariant c.in-Some.ensures
    (sym c.may_follow.ensures ∙ c.if-not-may_follow.true))
