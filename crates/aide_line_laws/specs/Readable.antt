-- Values that a reader gets back from their text.
use Rattle.std.specs.Prelude.{◌≡◌, ℕ, zero, suc, Bool, true, ◌&&◌, not, ◌==◌, nat_le, nat_lt, List}
use Rattle.std.specs.Prelude.{[], ◌∷◌, IsUtf8, ⊤}
use Rattle.json.specs.Print.{IsNumber}
use Rattle.aide_json.specs.Value.{Value, null, truth, number, word, text, base16, array, object}
use Rattle.aide_json.specs.Value.{Values, no_values, value, Members, no_members, member, Member}
use Rattle.aide_json.specs.Value.{members_of}
use Rattle.aide_line_laws.specs.ByteValues.{AreBytes}

-- a byte of ASCII that stands for itself in a string
abbrev pub is_plain : ℕ → Bool
is_plain x = nat_le 32 x && (nat_lt x 128 && (not (x == 34) && not (x == 92)))

-- each byte stands for itself
abbrev pub are_plain : List ℕ → Bool
are_plain [] = true
are_plain (x ∷ xs) = is_plain x && are_plain xs

abbrev mutual
  -- The digits of a number are a number, words need no escape, texts are UTF-8, what is in base 16 are bytes, and
  -- arrays and objects are nested at most so deep.
  pub IsReadable : Value → (most : ℕ) → Type 0
  IsReadable null most = ⊤
  IsReadable (truth is) most = ⊤
  IsReadable (number digits) most = IsNumber digits × (are_plain digits ≡ true)
  IsReadable (word bytes) most = are_plain bytes ≡ true
  IsReadable (text bytes) most = IsUtf8 bytes
  IsReadable (base16 bytes) most = AreBytes bytes
  IsReadable (array all) zero = ⊥
  IsReadable (array all) (suc most) = EachIsReadable all most
  IsReadable (object all) zero = ⊥
  IsReadable (object all) (suc most) = EachHasReadable all most

  -- each of the values is readable
  pub EachIsReadable : Values → (most : ℕ) → Type 0
  EachIsReadable no_values most = ⊤
  EachIsReadable (value one more) most = IsReadable one most × EachIsReadable more most

  -- each name needs no escape, and each value is readable
  pub EachHasReadable : Members → (most : ℕ) → Type 0
  EachHasReadable no_members most = ⊤
  EachHasReadable (member name one more) most =
      ((are_plain name ≡ true) × IsReadable one most) × EachHasReadable more most

-- the name needs no escape, and the value is readable
abbrev pub HasReadable : Member → (most : ℕ) → Type 0
HasReadable named most = (are_plain named.0 ≡ true) × IsReadable named.1 most

-- the members are readable
abbrev pub AreReadable : List Member → (most : ℕ) → Type 0
AreReadable all most = EachHasReadable (members_of all) most
