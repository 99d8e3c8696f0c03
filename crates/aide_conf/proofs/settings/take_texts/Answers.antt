use Rattle.std.proofs.Common.{rules, ℕ, List, [], ◌≡◌, ◌++◌, refl}
use Rattle.std.specs.Prelude.{map}
use Rattle.aide_conf.specs.declared.fault.ConfText.TheVariants.{Before, File, After}
use Rattle.aide_conf.specs.Cutting.{places_of, lines_of}
use Rattle.aide_conf.specs.Marks.{Marked}
use Rattle.aide_conf.specs.MarkedBlocks.{seen_in}
use Rattle.aide_conf.proofs.Whole.{elsewhere, elsewhere_both, unseen_at, then_more, then_stop, then_all, more_behind}
use Rattle.aide_conf.proofs.settings.take_texts.Goals as goal

-- before the second text none of its lines is seen, and before the third none of its
before_file : (before : List ℕ) (xs : List Marked) → map (λ (x : Marked). x.place) xs ≡ places_of Before before
    → seen_in File xs ≡ []
before_file before xs e = unseen_at File (places_of Before before) xs e (elsewhere File Before 1 (lines_of before) refl)

before_after : (before file : List ℕ) (xs : List Marked)
    → map (λ (x : Marked). x.place) xs ≡ places_of Before before ++ places_of File file → seen_in After xs ≡ []
before_after before file xs e = search (rules, unseen_at, elsewhere_both, elsewhere)

pub returns-in-Err-clause-taken : goal.returns-in-Err-clause-taken
returns-in-Err-clause-taken g c = search (rules, more_behind)

pub returns-in-Err-take_text-clause-taken : goal.returns-in-Err-take_text-clause-taken
returns-in-Err-take_text-clause-taken g c = λ s.
    let b = c.args.before.now in
    let ps = places_of Before b in
    let qs = places_of File c.args.file.now in
    let rs = places_of After c.args.after.now in
    more_behind _ (ps ++ qs) rs _
    (then_stop _ ps qs c.take_text.new.self _ (c.in_default.ensures.taken [] refl s)
    (λ earlier e t. c.in-Err-take_text.ensures.taken earlier (before_file b earlier e) t))

pub returns-clause-taken : goal.returns-clause-taken
returns-clause-taken g c = λ s.
    let b = c.args.before.now in
    let f = c.args.file.now in
    let ps = places_of Before b in
    let qs = places_of File f in
    let rs = places_of After c.args.after.now in
    then_all _ (ps ++ qs) rs c.take_text-2.new.self _ _
    (then_more _ ps qs c.take_text.new.self _ (c.in_default.ensures.taken [] refl s)
    (λ earlier e t. c.in_default-take_text.ensures.taken earlier (before_file b earlier e) t))
    (λ earlier e t. c.take_text-3.ensures.taken earlier (before_after b f earlier e) t)

pub returns-in-Err-clause-named : goal.returns-in-Err-clause-named
returns-in-Err-clause-named g c = λ compared. tt

pub returns-in-Err-take_text-clause-named : goal.returns-in-Err-take_text-clause-named
returns-in-Err-take_text-clause-named g c = λ compared. tt

pub returns-clause-named : goal.returns-clause-named
returns-clause-named g c = λ compared. c.take_text-3.ensures.named compared refl
