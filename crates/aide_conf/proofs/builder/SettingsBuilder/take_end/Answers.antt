use Rattle.std.proofs.Common.{ap, ◌∙◌, ◌≡◌, ◌<◌, length, rules}
use Rattle.aide_conf.specs.declared.task.Need.TheVariants.{Compare}
use Rattle.aide_conf.specs.code.PlaceFault.{end_fault}
use Rattle.aide_conf.specs.code.Stack.{frames_of}
use Rattle.aide_conf.proofs.PlaceTaken.{block_open, ended, lacking}
use Rattle.aide_conf.proofs.builder.SettingsBuilder.take_end.Goals as goal

pub returns-then-depth-gt0-clause-taken : goal.returns-then-depth-gt0-clause-taken
returns-then-depth-gt0-clause-taken g c =
    let k : 0 < length (frames_of c.args.blocks.now) = search rules in
    λ earlier n s o. block_open c.args.need earlier c.args.text n (frames_of c.args.blocks.now) o c.args.self.now k

pub returns-in-Check-clause-taken : goal.returns-in-Check-clause-taken
returns-in-Check-clause-taken g c =
    let k : length (frames_of c.args.blocks.now) ≡ 0 = search rules in
    λ earlier n s o. ended c.args.need earlier c.args.text n (frames_of c.args.blocks.now) o c.args.self.now s tt k
    (ap (λ z. end_fault z c.args.text earlier) c.in-Check.is)

pub returns-in-Before-clause-taken : goal.returns-in-Before-clause-taken
returns-in-Before-clause-taken g c =
    let k : length (frames_of c.args.blocks.now) ≡ 0 = search rules in
    λ earlier n s o. ended c.args.need earlier c.args.text n (frames_of c.args.blocks.now) o c.args.self.now s tt k
    (ap (λ z. end_fault z c.args.text earlier) c.in-Compare.is ∙ ap (λ z. end_fault Compare z earlier) c.in-Before.is)

pub returns-in-File-clause-taken : goal.returns-in-File-clause-taken
returns-in-File-clause-taken g c =
    let k : length (frames_of c.args.blocks.now) ≡ 0 = search rules in
    λ earlier n s o. ended c.args.need earlier c.args.text n (frames_of c.args.blocks.now) o c.args.self.now s tt k
    (ap (λ z. end_fault z c.args.text earlier) c.in-Compare.is ∙ ap (λ z. end_fault Compare z earlier) c.in-File.is)

pub returns-in-After-clause-taken : goal.returns-in-After-clause-taken
returns-in-After-clause-taken g c = search (rules, lacking)
