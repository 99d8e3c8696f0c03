use Rattle.std.proofs.Common.{◌∙◌, ◌-◌, ap, drop, take}
use Rattle.std.proofs.lemmas.Slice.{between_is}
use Rattle.aide_site.proofs.Pages.{passed_on}
use Rattle.aide_site.proofs.paged_sink.PagedSink.send.Goals as goal

pub returns-in-Err-clause-bytes : goal.returns-in-Err-clause-bytes
returns-in-Err-clause-bytes g c =
    let page = c.deref.result.now in
    let used = c.self.inside.used in
    let passed = c.self.inside.passed in
    let kept = passed_on _ _ (take used c.self.inside.page.value) (take (used - passed) (drop passed page)) passed c.in-Err.count
    (between_is page passed used ∙ ap (λ p. drop passed (take used p)) c.deref.ensures) c.in-Err.ensures.cut in
    rw (← c.self.view_is) kept
