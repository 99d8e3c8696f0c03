-- Every configuration has an answer.
use Rattle.std.proofs.Common.{rules, ℕ, ◌≡◌, Bool, true, false, List, [], ◌∷◌, ◌++◌, refl, sym, ap, subst, ◌∙◌, Option}
use Rattle.std.proofs.Common.{Some, None, Result, Ok, Err, inl, inr, ◌⊎◌, append_assoc}
use Rattle.std.specs.Prelude.{map, unwrap_or, if◌then◌else◌}
use Rattle.aide_attr.specs.declared.attr.Attr.{Attr}
use Rattle.aide_attr.specs.declared.set.AttrSet.{AttrSet}
use Rattle.aide_attr.specs.declared.expression.ExprFault.{ExprFault}
use Rattle.aide_attr.specs.declared.level.Level.TheVariants.{ChangedAttributes}
use Rattle.aide_attr.specs.Set.{has}
use Rattle.aide_attr.specs.Expression.{IsMeaning, IsFault}
use Rattle.aide_attr.proofs.WalkLemmas.{is_meaning}
use Rattle.aide_attr.proofs.WalkFaults.{is_fault}
use Rattle.aide_conf.specs.declared.task.Need.{Need}
use Rattle.aide_conf.specs.declared.fault.ConfText.{ConfText}
use Rattle.aide_conf.specs.declared.fault.ConfText.TheVariants.{Before, File, After}
use Rattle.aide_conf.specs.declared.fault.ConfFault.{ConfFault}
use Rattle.aide_conf.specs.declared.fault.ConfFaultKind.{ConfFaultKind}
use Rattle.aide_conf.specs.declared.options.Options.{Options}
use Rattle.aide_conf.specs.declared.option_kind.Side.TheVariants.{Old, New}
use Rattle.aide_conf.specs.declared.options.Switch.{Switch}
use Rattle.aide_conf.specs.declared.options.AttrList.{AttrList}
use Rattle.aide_conf.specs.declared.blocks.Frame.{Frame}
use Rattle.aide_conf.specs.Cutting.{Place, places}
use Rattle.aide_conf.specs.Blocks.{nothing}
use Rattle.aide_conf.specs.code.Stack.{IsOpen}
use Rattle.aide_conf.specs.Marks.{Marked, last_given}
use Rattle.aide_conf.specs.MarkedBlocks.{is_text, seen, seen_in}
use Rattle.aide_conf.specs.MarkedGroups.{IsJudgedWell}
use Rattle.aide_conf.specs.MarkedPaths.{path_set}
use Rattle.aide_conf.specs.FaultOrder.{fault_at}
use Rattle.aide_conf.specs.RightMarks.{AreSound, IsMarkedWell}
use Rattle.aide_conf.specs.Options.{switch_default, options_of}
use Rattle.aide_conf.specs.Settings.{AreOptions, AreSettings, Configured, attrs_in, counted, has_any, level_in, switch_in}
use Rattle.aide_conf.specs.ReadResult.{ReadsAs}
use Rattle.aide_conf.proofs.Cuts.{append_nothing}
use Rattle.aide_conf.proofs.OptionsLemmas.{made_switch, made_attrs}
use Rattle.aide_conf.proofs.PlaceTaken.{ends_somehow, goes_on}
use Rattle.aide_conf.proofs.SetOf.{set_of, has_set_of}

-- ---- expressions

abbrev Look : Type 0
Look = List ℕ → Option (Attr → Bool)

-- a text means a set, or has a fault: by the answer of a program that gives one of them
judged_by : {r : Result (Attr → Bool) ExprFault} (look : Look) (text : List ℕ)
    → ((s : AttrSet) → r ≡ Ok (has s) → IsMeaning look text s) → ((e : ExprFault) → r ≡ Err e → IsFault look text e)
    → (v : Result AttrSet ExprFault) × IsJudgedWell look (Some text) (Some v)
judged_by {r} look text means fails = by_answer r refl
  where
    by_answer : (q : Result (Attr → Bool) ExprFault) → r ≡ q
        → (v : Result AttrSet ExprFault) × IsJudgedWell look (Some text) (Some v)
    by_answer (Ok f) e = (Ok (set_of f), means (set_of f) (e ∙ ap Ok (sym (has_set_of f))))
    by_answer (Err fault) e = (Err fault, fails fault e)

judged_text : (look : Look) (text : List ℕ) → (v : Result AttrSet ExprFault) × IsJudgedWell look (Some text) (Some v)
judged_text look text = judged_by look text (is_meaning look text) (is_fault look text)

pub judged : (look : Look) (text : Option (List ℕ)) → (v : Option (Result AttrSet ExprFault)) × IsJudgedWell look text v
judged look None = (None, refl)
judged look (Some text) = let r = judged_text look text in (Some r.0, r.1)

-- ---- places

-- each text has its open blocks
abbrev AllOpen : List Marked → Type 0
AllOpen earlier = (text : ConfText) → (fs : List Frame) × IsOpen (seen_in text earlier) fs

same_text : (t u : ConfText) → is_text t u ≡ true → u ≡ t
same_text Before Before e = refl
same_text File File e = refl
same_text After After e = refl
same_text Before After e = cc
same_text File Before e = cc
same_text File After e = cc
same_text After Before e = cc
same_text _ File e = cc

unseen : (text : ConfText) (xs : List Marked) (x : Marked) → is_text text x.place.text ≡ false
    → seen_in text (xs ++ x ∷ []) ≡ seen_in text xs
unseen text [] x e = ap (λ z. if z then seen x ∷ [] else []) e
unseen text (y ∷ ys) x e = search (rules, unseen text ys x e)

open_after : (earlier : List Marked) (x : Marked) → AllOpen earlier → (gs : List Frame)
    → IsOpen (seen_in x.place.text (earlier ++ x ∷ [])) gs → AllOpen (earlier ++ x ∷ [])
open_after earlier x all gs o text = by (is_text text x.place.text) refl
  where
    by : (b : Bool) → is_text text x.place.text ≡ b → (fs : List Frame) × IsOpen (seen_in text (earlier ++ x ∷ [])) fs
    by true e = (gs, subst (λ t. IsOpen (seen_in t (earlier ++ x ∷ [])) gs) (same_text text x.place.text e) o)
    by false e = let h = all text in (h.0, subst (λ z. IsOpen z h.0) (sym (unseen text earlier x e)) h.1)

-- a place is marked in some way, and the blocks go on behind it where it has no fault
record HasMark (need : Need) (earlier : List Marked) (at : Place) : Type 0 where
  mark : Marked
  place : mark.place ≡ at
  well : IsMarkedWell earlier mark
  goes_on : fault_at need earlier mark ≡ None → (gs : List Frame) × IsOpen (seen_in at.text (earlier ++ mark ∷ [])) gs

marked : (need : Need) (earlier : List Marked) (at : Place) → AllOpen earlier → HasMark need earlier at
marked need earlier at all = let h = all at.text in by at.line refl h.0 h.1
  where
    at_place : (line : Option (List ℕ)) → at.line ≡ line → record { text = at.text; number = at.number; line = line } ≡ at
    at_place line e = ap (λ z. record at { line = z }) (sym e)

    by : (line : Option (List ℕ)) → at.line ≡ line → (fs : List Frame) → IsOpen (seen_in at.text earlier) fs
        → HasMark need earlier at
    by None e fs o = let r = ends_somehow need earlier at.text at.number fs o in
        record { mark = r.0; place = r.1 ∙ at_place None e; well = r.2; goes_on = r.3 }
    by (Some line) e fs o = let r = goes_on need earlier at.text at.number line fs o (judged _ _) in
        record { mark = r.0; place = r.1 ∙ at_place (Some line) e; well = r.2; goes_on = r.3 }

-- the places are sound, or one is the first with a fault
record HasStop (need : Need) (earlier : List Marked) (ps : List Place) : Type 0 where
  lines : List Marked
  at : Marked
  rest : List Place
  cut : ps ≡ map (λ x. x.place) lines ++ at.place ∷ rest
  sound : AreSound need earlier lines
  well : IsMarkedWell (earlier ++ lines) at
  kind : ConfFaultKind
  fault : fault_at need (earlier ++ lines) at ≡ Some kind

abbrev Walked : Need → List Marked → List Place → Type 0
Walked need earlier ps =
    ((xs : List Marked) × (map (λ x. x.place) xs ≡ ps) × AreSound need earlier xs) ⊎ HasStop need earlier ps

walked : (need : Need) (earlier : List Marked) (ps : List Place) → AllOpen earlier → Walked need earlier ps
walked need earlier [] all = inl ([], refl, tt)
walked need earlier (p ∷ ps) all = by (λ xs o. walked need xs ps o) (fault_at need earlier m.mark) refl
  where
    m : HasMark need earlier p
    m = marked need earlier p all

    more : fault_at need earlier m.mark ≡ None → Walked need (earlier ++ m.mark ∷ []) ps → Walked need earlier (p ∷ ps)
    more e (inl h) = inl (m.mark ∷ h.0, ap (λ z. z ∷ map (λ (x : Marked). x.place) h.0) m.place ∙ ap (λ z. p ∷ z) h.1, (m.well, e, h.2))
    more e (inr h) = search (rules, append_assoc)

    by : ((xs : List Marked) → AllOpen xs → Walked need xs ps) → (o : Option ConfFaultKind)
        → fault_at need earlier m.mark ≡ o → Walked need earlier (p ∷ ps)
    by again None e =
        let g = m.goes_on e in
        let o = subst (λ (z : Place). IsOpen (seen_in z.text (earlier ++ m.mark ∷ [])) g.0) (sym m.place) g.1 in
        more e (again (earlier ++ m.mark ∷ []) (open_after earlier m.mark all g.0 o))
    by again (Some kind) e = inr (record {
      lines = [];
      at = m.mark;
      rest = ps;
      cut = ap (λ z. z ∷ ps) (sym m.place);
      sound = tt;
      well = subst (λ z. IsMarkedWell z m.mark) (sym (append_nothing earlier)) m.well;
      kind = kind;
      fault = subst (λ z. fault_at need z m.mark ≡ Some kind) (sym (append_nothing earlier)) e;
    })

-- ---- settings

list_of : AttrList → List Marked → AttrSet
list_of l xs = set_of (has_any (last_given (attrs_in l) xs))

has_list_of : (l : AttrList) (xs : List Marked) (a : Attr)
    → has (list_of l xs) a ≡ has_any (last_given (attrs_in l) xs) a
unfolding list_of
has_list_of l xs a = ap (λ f. f a) (has_set_of (has_any (last_given (attrs_in l) xs)))

switch_at : List Marked → Switch → Bool
switch_at xs s = unwrap_or (last_given (switch_in s) xs) (switch_default s)

options_at : List Marked → Options
options_at xs = options_of (unwrap_or (last_given level_in xs) ChangedAttributes) (switch_at xs) (λ l. list_of l xs)

are_options : (xs : List Marked) → AreOptions xs (options_at xs)
unfolding options_at switch_at
are_options xs = search (rules, made_switch, list_of, made_attrs, has_list_of)

settings_at : List Marked → Configured
settings_at xs = record { options = options_at (counted xs); old_path = path_set Old xs; new_path = path_set New xs }

are_settings : (xs : List Marked) → AreSettings xs (settings_at xs)
unfolding settings_at
are_settings xs = record { options = are_options (counted xs); old_path = refl; new_path = refl }

-- ---- the answer

pub reads_somehow : (need : Need) (before file after : List ℕ)
    → (r : Result Configured ConfFault) × ReadsAs need before file after r
reads_somehow need before file after = by (walked need [] (places before file after) (λ text. ([], nothing)))
  where
    by : Walked need [] (places before file after)
        → (r : Result Configured ConfFault) × ReadsAs need before file after r
    by (inl h) = (Ok (settings_at h.0), record { lines = h.0; all = h.1; sound = h.2; settings = are_settings h.0 })
    by (inr h) = (
      Err (record { text = h.at.place.text; line = h.at.place.number; kind = h.kind }),
      record {
        lines = h.lines;
        at = h.at;
        rest = h.rest;
        cut = h.cut;
        sound = h.sound;
        marked = h.well;
        fault = h.fault;
        text = refl;
        line = refl;
      },
    )
