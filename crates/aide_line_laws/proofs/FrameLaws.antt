-- The first and the last line are about no path.
use Rattle.std.proofs.Common.{◌≡◌, ◌∙◌, ℕ, false, List, [], ◌∷◌, Some, None, refl, sym, ap}
use Rattle.std.specs.Prelude.{codes, option_and_then}
use Rattle.std.specs.Str.{bytes_eq}
use Rattle.aide_json.specs.Number.{count}
use Rattle.aide_json.specs.Value.{Member, text_member}
use Rattle.aide_line_text.specs.Frame.{ReadFacts, closing_members, opening_members}
use Rattle.aide_line_text.specs.declared.counts.LineCounts.{LineCounts}
use Rattle.aide_line_laws.specs.Field.{Field, fields_of, json_of}
use Rattle.aide_line_laws.specs.OverMaps.{IsAbout}
use Rattle.aide_line_laws.specs.Reading.{bytes_of, text_of, text_under, value_under}
use Rattle.aide_line_laws.proofs.ReadingLaws.{other_name, past_text}

-- a line without a path in either form is about none
pub none_about : (fields : List Field) → value_under (codes "path") fields ≡ None → value_under (codes "path_hex") fields ≡ None
    → (path : List ℕ) → IsAbout path fields → ⊥
none_about fields e f path about =
    let none : text_under (codes "path") fields ≡ None =
    ap (λ found. elim found [
      | Some json ↦ text_of json
      | None ↦ option_and_then bytes_of (value_under (codes "path_hex") fields)
    ]) e
    ∙ ap (option_and_then bytes_of) f in
    let g = sym none ∙ about in cc

none_under : (key old_path new_path trusted_old trusted_new : List ℕ) → bytes_eq (codes "format") key ≡ false
    → bytes_eq (codes "old") key ≡ false → bytes_eq (codes "old_hex") key ≡ false → bytes_eq (codes "new") key ≡ false
    → bytes_eq (codes "new_hex") key ≡ false → bytes_eq (codes "trusted_old") key ≡ false
    → bytes_eq (codes "trusted_old_hex") key ≡ false → bytes_eq (codes "trusted_new") key ≡ false
    → bytes_eq (codes "trusted_new_hex") key ≡ false
    → value_under key (fields_of (opening_members old_path new_path trusted_old trusted_new)) ≡ None
none_under key old_path new_path trusted_old trusted_new format o o_hex n n_hex t t_hex u u_hex =
    let three : List Member = text_member (codes "trusted_new") trusted_new ∷ [] in
    let two : List Member = text_member (codes "trusted_old") trusted_old ∷ three in
    let one : List Member = text_member (codes "new") new_path ∷ two in
    other_name key (codes "format") (json_of (count 4)) (fields_of (text_member (codes "old") old_path ∷ one)) format
    ∙ (past_text key (codes "old") old_path one o o_hex
    ∙ (past_text key (codes "new") new_path two n n_hex
    ∙ (past_text key (codes "trusted_old") trusted_old three t t_hex
    ∙ past_text key (codes "trusted_new") trusted_new [] u u_hex)))

pub opening_of_none : (old_path new_path trusted_old trusted_new path : List ℕ)
    → IsAbout path (fields_of (opening_members old_path new_path trusted_old trusted_new)) → ⊥
opening_of_none old_path new_path trusted_old trusted_new =
    none_about (fields_of (opening_members old_path new_path trusted_old trusted_new))
    (none_under (codes "path") old_path new_path trusted_old trusted_new refl refl refl refl refl refl refl refl refl)
    (none_under (codes "path_hex") old_path new_path trusted_old trusted_new refl refl refl refl refl refl refl refl refl)

pub closing_of_none : (old new trusted_old trusted_new : ReadFacts) (list : List ℕ) (counts : LineCounts) (status : ℕ) (path : List ℕ)
    → IsAbout path (fields_of (closing_members old new trusted_old trusted_new list counts status)) → ⊥
closing_of_none old new trusted_old trusted_new list counts status =
    none_about (fields_of (closing_members old new trusted_old trusted_new list counts status)) refl refl
