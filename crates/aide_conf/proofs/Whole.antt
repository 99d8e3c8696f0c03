-- The three texts, one after another.
use Rattle.std.proofs.Common.{rules, ℕ, ◌≡◌, ◌+◌, false, List, [], ◌∷◌, ◌++◌, refl, sym, ap, subst, ◌∙◌, append_assoc}
use Rattle.std.proofs.Common.{◌⊎◌}
use Rattle.std.specs.Prelude.{map, if◌then◌else◌, Result, Ok, Err}
use Rattle.aide_conf.specs.declared.task.Need.{Need}
use Rattle.aide_conf.specs.declared.fault.ConfFault.{ConfFault}
use Rattle.aide_conf.specs.declared.builder.SettingsBuilder.{SettingsBuilder}
use Rattle.aide_conf.specs.declared.fault.ConfText.{ConfText}
use Rattle.aide_conf.specs.Cutting.{Place, places_from}
use Rattle.aide_conf.specs.Marks.{Marked}
use Rattle.aide_conf.specs.MarkedBlocks.{is_text, seen, seen_in}
use Rattle.aide_conf.specs.RightMarks.{AreSound}
use Rattle.aide_conf.specs.ReadResult.{IsRead, IsRefused, IsStarved}
use Rattle.aide_conf.specs.code.Builder.{IsBuiltFrom, Takes, TakesAll, Stops, settings_of}
use Rattle.aide_conf.proofs.Cuts.{append_nothing}

places_append : (xs ys : List Marked)
    → map (λ (x : Marked). x.place) (xs ++ ys) ≡ map (λ (x : Marked). x.place) xs ++ map (λ (x : Marked). x.place) ys
places_append [] ys = refl
places_append (x ∷ xs) ys = ap (λ z. x.place ∷ z) (places_append xs ys)

sound_append : (need : Need) (earlier xs ys : List Marked) → AreSound need earlier xs → AreSound need (earlier ++ xs) ys
    → AreSound need earlier (xs ++ ys)
sound_append need earlier [] ys h i = subst (λ z. AreSound need z ys) (append_nothing earlier) i
sound_append need earlier (x ∷ xs) ys h i = search (rules, append_assoc, sound_append need (earlier ++ x ∷ []) xs ys h.2)

-- ---- lines of other texts

abbrev pub Elsewhere : ConfText → List Place → Type 0
Elsewhere text [] = Unit {0}
Elsewhere text (p ∷ ps) = (is_text text p.text ≡ false) × Elsewhere text ps

pub elsewhere : (text other : ConfText) (n : ℕ) (ls : List (List ℕ)) → is_text text other ≡ false
    → Elsewhere text (places_from other n ls)
elsewhere text other n [] e = (e, tt)
elsewhere text other n (l ∷ ls) e = (e, elsewhere text other (n + 1) ls e)

pub elsewhere_both : (text : ConfText) (ps qs : List Place) → Elsewhere text ps → Elsewhere text qs
    → Elsewhere text (ps ++ qs)
elsewhere_both text [] qs h i = i
elsewhere_both text (p ∷ ps) qs h i = (h.0, elsewhere_both text ps qs h.1 i)

-- none of them is seen in a text
unseen : (text : ConfText) (xs : List Marked) → Elsewhere text (map (λ (x : Marked). x.place) xs) → seen_in text xs ≡ []
unseen text [] h = refl
unseen text (x ∷ xs) h = ap (λ z. if z then seen x ∷ seen_in text xs else seen_in text xs) h.0 ∙ unseen text xs h.1

pub unseen_at : (text : ConfText) (ps : List Place) (xs : List Marked) → map (λ (x : Marked). x.place) xs ≡ ps
    → Elsewhere text ps → seen_in text xs ≡ []
unseen_at text ps xs e h = unseen text xs (subst (Elsewhere text) (sym e) h)

-- ---- one text after others

-- sound lines of one text after those of others
pub then_more : {A : Type 0} (need : Need) (ps qs : List Place) (p q : SettingsBuilder A) → Takes need [] ps p
    → ((earlier : List Marked) → map (λ (x : Marked). x.place) earlier ≡ ps → IsBuiltFrom earlier p → Takes need earlier qs q)
    → Takes need [] (ps ++ qs) q
then_more need ps qs p q t u = search (rules, places_append, sound_append)

pub then_stop : {A : Type 0} (need : Need) (ps qs : List Place) (p : SettingsBuilder A) (e : ConfFault) → Takes need [] ps p
    → ((earlier : List Marked) → map (λ (x : Marked). x.place) earlier ≡ ps → IsBuiltFrom earlier p → Stops need earlier qs e)
    → Stops need [] (ps ++ qs) e
then_stop need ps qs p e t u =
    let v = u t.0 t.1 t.3 in
    record {
      lines = t.0 ++ v.lines;
      at = v.at;
      rest = v.rest;
      cut = ap (λ z. ps ++ z) v.cut ∙ ap (λ z. z ++ (map (λ (x : Marked). x.place) v.lines ++ v.at ∷ v.rest)) (sym t.1)
          ∙ sym (append_assoc (map (λ (x : Marked). x.place) t.0) (map (λ (x : Marked). x.place) v.lines) (v.at ∷ v.rest))
          ∙ ap (λ z. z ++ v.at ∷ v.rest) (sym (places_append t.0 v.lines));
      sound = sound_append need [] t.0 v.lines t.2 v.sound;
      text = v.text;
      line = v.line;
      kind = v.kind;
    }

-- one text after others, sound or not
pub then_all : {A E : Type 0} (need : Need) (ps qs : List Place) (p q : SettingsBuilder A) (r : Result E ConfFault)
    → Takes need [] ps p
    → ((earlier : List Marked) → map (λ (x : Marked). x.place) earlier ≡ ps → IsBuiltFrom earlier p → TakesAll need earlier qs q r)
    → TakesAll need [] (ps ++ qs) q r
then_all need ps qs p q (Ok u) t taken = then_more need ps qs p q t taken
then_all need ps qs p q (Err e) t taken = then_stop need ps qs p e t taken

pub more_behind : (need : Need) (ps qs : List Place) (e : ConfFault) → Stops need [] ps e → Stops need [] (ps ++ qs) e
more_behind need ps qs e v = search (rules, append_assoc)

pub refused : (need : Need) (ps : List Place) (e : ConfFault) → Stops need [] ps e
    → IsRefused need ps e ⊎ IsStarved need ps e
refused need ps e v = search rules

pub taken : {A : Type 0} (need : Need) (ps : List Place) (p : SettingsBuilder A) → Takes need [] ps p
    → IsRead need ps (settings_of p)
taken need ps p t = search rules
