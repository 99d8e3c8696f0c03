-- The letters of a summary string stand for themselves in a string of JSON.
use Rattle.std.proofs.Common.{◌≡◌, ◌∷◌, Bool, List, None, Option, Some, [], false, if◌then◌else◌, map, refl, rules, true, ℕ}
use Rattle.std.specs.declared.cmp.Ordering.{Ordering}
use Rattle.std.specs.declared.cmp.Ordering.TheVariants.{Less, Equal, Greater}
use Rattle.std.proofs.lemmas.Bool.{and_parts, and_from}
use Rattle.aide_agreement.specs.Account.{Pair}
use Rattle.aide_attr.specs.Difference.{Sides}
use Rattle.aide_attr.specs.Summary.{slot_letter, size_letter, letter_of_type, letter_at, summary_slots, alone_letters}
use Rattle.aide_attr.specs.declared.attr.Attr.{Attr}
use Rattle.aide_attr.specs.declared.attr.Attr.TheVariants.{Ftype}
use Rattle.aide_attr.specs.declared.delta.Ignore.{Ignore}
use Rattle.aide_attr.specs.declared.file_type.FileType.{FileType}
use Rattle.aide_attr.specs.declared.file_type.FileType.TheVariants as kind
use Rattle.aide_attr.specs.declared.summary_string.Alone.{Alone}
use Rattle.aide_attr.specs.declared.summary_string.Alone.TheVariants.{Added, Removed}
use Rattle.aide_fields.specs.Attributes.{sides_between, type_in}
use Rattle.aide_merge.specs.Said.{letters_of}
use Rattle.aide_line_laws.specs.Readable.{is_plain, are_plain}

either_plain : (test : Bool) (x y : ℕ) → is_plain x ≡ true → is_plain y ≡ true → is_plain (if test then x else y) ≡ true
either_plain true x y e f = e
either_plain false x y e f = f

plain_slot : (s : Sides) (i : Ignore) (attrs : List Attr) (own same : ℕ) → is_plain own ≡ true → is_plain same ≡ true
    → is_plain (slot_letter s i attrs own same) ≡ true
unfolding slot_letter
plain_slot s i attrs own same e f = search (rules, either_plain)

plain_size : (order : Ordering) → is_plain (size_letter order) ≡ true
plain_size Less = refl
plain_size Equal = refl
plain_size Greater = refl

plain_type_letter : (found : Option FileType) → is_plain (letter_of_type found) ≡ true
plain_type_letter None = refl
plain_type_letter (Some kind.File) = refl
plain_type_letter (Some kind.Directory) = refl
plain_type_letter (Some kind.Link) = refl
plain_type_letter (Some kind.Char) = refl
plain_type_letter (Some kind.Block) = refl
plain_type_letter (Some kind.Fifo) = refl
plain_type_letter (Some kind.Socket) = refl
plain_type_letter (Some (kind.Other bits)) = refl

plain_letter : (s : Sides) (i : Ignore) (slot : ℕ) → is_plain slot ≡ true → is_plain (letter_at s i slot) ≡ true
unfolding letter_at
plain_letter s i slot e = search (rules, either_plain, plain_type_letter, plain_slot, plain_size)

plain_letters_at : (s : Sides) (i : Ignore) (slots : List ℕ) → are_plain slots ≡ true → are_plain (map (letter_at s i) slots) ≡ true
plain_letters_at s i [] e = refl
plain_letters_at s i (slot ∷ slots) e =
    let p = and_parts (is_plain slot) (are_plain slots) e in
    and_from _ _ (plain_letter s i slot p.0) (plain_letters_at s i slots p.1)

plain_alone : (found : Option FileType) (alone : Alone) → are_plain (alone_letters found alone) ≡ true
plain_alone found Added = and_from _ _ (plain_type_letter found) refl
plain_alone found Removed = and_from _ _ (plain_type_letter found) refl

pub plain_letters : (ignore : Ignore) (pair : Pair) → are_plain (letters_of ignore pair) ≡ true
plain_letters ignore (None, None) = refl
plain_letters ignore (None, Some new_entry) = plain_alone (type_in (new_entry Ftype)) Added
plain_letters ignore (Some old_entry, None) = plain_alone (type_in (old_entry Ftype)) Removed
plain_letters ignore (Some old_entry, Some new_entry) = plain_letters_at (sides_between old_entry new_entry) ignore summary_slots refl
