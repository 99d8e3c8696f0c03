use Rattle.std.proofs.Common.{◌∙◌, ◌+◌, ◌-◌, ◌++◌, ◌≤◌, ◌≡◌, ap, arith, length, rules, take}
use Rattle.std.proofs.lemmas.List.{length-take-le}
use Rattle.std.proofs.lemmas.Slice.{take-put_mid}
use Rattle.aide_site.proofs.Pages.{page_grows}
use Rattle.aide_site.proofs.paged_sink.PagedSink.take.Goals as goal

pub returns-clause-bytes : goal.returns-clause-bytes
returns-clause-bytes g c =
    let page = c.self.inside.page.value in
    let there = c.deref_mut.result.now in
    let used = c.self.inside.used in
    let count = c.min-count.result in
    let more = take count c.args.bytes.now in
    let fits : used ≤ length there = search rules in
    let long : length c.copy_from_slice.new.self ≡ count = search rules in
    let grown = page_grows (g.W.Sink.delivered c.self.inside.sink) (take used page) more _ c.self.inside.passed
    (omega (arith, c.self.inside.within, length-take-le used there fits, ap (λ p. length (take used p)) c.deref_mut.ensures.value))
    (take-put_mid used (used + count - used) there c.copy_from_slice.new.self (used + count) (omega (arith, long)) fits
    ∙ ap (λ p. take used p ++ c.copy_from_slice.new.self) c.deref_mut.ensures.value
    ∙ ap (λ ys. take used page ++ ys) c.copy_from_slice.ensures.after) in
    rw (← c.self.view_is) grown
