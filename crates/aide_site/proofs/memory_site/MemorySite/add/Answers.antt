use Rattle.std.proofs.Common.{rules, ◌≡◌, ◌∙◌, ap, List, ℕ, [], ◌∷◌, ◌++◌}
use Rattle.aide_site.specs.Sites.{bytes_at}
use Rattle.aide_site.proofs.SiteLemmas.{added_here, added_elsewhere}
use Rattle.aide_site.proofs.memory_site.MemorySite.add.Goals as goal

pub returns-clause-here : goal.returns-clause-here
returns-clause-here c =
    let path = c.args.path.now in
    let items : c.push.new.self.items ≡ c.args.self.now.files ++ (path, c.args.bytes.now) ∷ [] = search rules in
    ap (λ (l : List (List ℕ × List ℕ)). bytes_at l path) items ∙ added_here c.args.self.now.files path c.args.bytes.now

pub returns-clause-elsewhere : goal.returns-clause-elsewhere
returns-clause-elsewhere c = λ other apart.
    let path = c.args.path.now in
    let items : c.push.new.self.items ≡ c.args.self.now.files ++ (path, c.args.bytes.now) ∷ [] = search rules in
    ap (λ (l : List (List ℕ × List ℕ)). bytes_at l other) items ∙ added_elsewhere c.args.self.now.files path c.args.bytes.now other apart
