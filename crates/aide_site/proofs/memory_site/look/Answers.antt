use Rattle.std.proofs.Common.{◌∙◌, sym, ap, List, ℕ, Option, get_or}
use Rattle.std.specs.Option.{option_map}
use Rattle.aide_site.specs.Sites.{either, of_file}
use Rattle.aide_site.proofs.SiteLemmas.{bytes_none, bytes_more}
use Rattle.aide_site.proofs.memory_site.look.Goals as goal

pub loop-file-init : goal.loop-file-init
loop-file-init c = bytes_none c.args.path.now

pub loop-file-preserved : goal.loop-file-preserved
loop-file-preserved c =
    let files = c.args.files.now in
    let path = c.args.path.now in
    let item : List ℕ × List ℕ = c.file-item.result in
    let at : ℕ = c.loop-file.file-index in
    c.later-found.ensures
    ∙ ap (λ (f : List ℕ × List ℕ). either (of_file f path) (option_map (λ b. b.now) c.loop-file.found)) c.file-item.is
    ∙ ap (λ (o : Option (List ℕ)). either (of_file (get_or files at item) path) o) c.loop-file.invariant
    ∙ sym (bytes_more files at item path c.loop-file-test.true)
