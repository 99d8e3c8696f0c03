-- Blocks of lines: which lines enclose a line, in which part of a block it is, and how deep it is
-- nested.
use Rattle.std.specs.Prelude.{ℕ, ◌≡◌, Bool, true, false, List, [], ◌∷◌, ◌++◌, length, ◌<◌, ◌⊎◌, ◌↔◌}

-- what a line does to the blocks of its text
pub data BlockRole : Type 0 where
  Opens : BlockRole
  Divides : BlockRole
  Closes : BlockRole
  Single : BlockRole

-- A line of a text, and what is true of it: whether it is used, and, if it opens a block, whether
-- it chooses the first part of the block.
pub record Seen : Type 0 where
  pub role : BlockRole
  pub used : Bool
  pub first : Bool

-- a line with this role begins a block
abbrev pub opens : BlockRole → Bool
opens Opens = true
opens _ = false

-- a line with this role ends the first part of its block and begins the second
abbrev pub divides : BlockRole → Bool
divides Divides = true
divides _ = false

-- a line with this role ends a block
abbrev pub closes : BlockRole → Bool
closes Closes = true
closes _ = false

-- a line with this role leaves the blocks as they are
abbrev pub is_single : BlockRole → Bool
is_single Single = true
is_single _ = false

-- the lists of lines in which every block is whole
pub data Balanced : List Seen → Type 0 where
  nothing : Balanced []
  line : (x : Seen) → is_single x.role ≡ true → Balanced (x ∷ [])
  both : (xs ys : List Seen) → Balanced xs → Balanced ys → Balanced (xs ++ ys)
  block : (o c : Seen) (xs : List Seen) → opens o.role ≡ true → Balanced xs → closes c.role ≡ true
      → Balanced (o ∷ xs ++ c ∷ [])
  divided : (o d c : Seen) (xs ys : List Seen)
      → opens o.role ≡ true → Balanced xs → divides d.role ≡ true → Balanced ys
      → closes c.role ≡ true
      → Balanced (o ∷ (xs ++ d ∷ ys) ++ c ∷ [])

-- what may be between the opening and the closing line of a block: one part, or two
abbrev pub Inside : List Seen → Type 0
Inside xs =
    Balanced xs
    ⊎ ((ys : List Seen) × (d : Seen) × (zs : List Seen) × (xs ≡ ys ++ d ∷ zs) × Balanced ys
    × (divides d.role ≡ true) × Balanced zs)

-- one of these lines ends the block that an opening line just before them began
abbrev pub IsClosed : List Seen → Type 0
IsClosed between =
    (inner : List Seen) × (c : Seen) × (rest : List Seen) × (between ≡ inner ++ c ∷ rest)
    × (closes c.role ≡ true) × Inside inner

-- a line is in the second part of a block if these lines are between it and the opening line
abbrev pub IsSecond : List Seen → Type 0
IsSecond between =
    (xs : List Seen) × (d : Seen) × (ys : List Seen) × (between ≡ xs ++ d ∷ ys)
    × (divides d.role ≡ true) × Balanced xs

-- no line encloses the line that follows these
abbrev pub IsOutside : List Seen → Type 0
IsOutside here =
    (outer : List Seen) (o : Seen) (between : List Seen) → here ≡ outer ++ o ∷ between
    → opens o.role ≡ true → IsClosed between

-- the innermost line that encloses the line that follows these
pub record IsInnermost (here outer : List Seen) (o : Seen) (between : List Seen) : Type 0 where
  pub cut : here ≡ outer ++ o ∷ between
  pub opening : opens o.role ≡ true
  pub unclosed : ¬ IsClosed between
  pub last : IsOutside between

-- the innermost block that is open after these lines is in its second part
abbrev pub IsDivided : List Seen → Type 0
IsDivided here = (outer : List Seen) × (o : Seen) × (between : List Seen)
    × IsInnermost here outer o between × IsSecond between

-- An opening line chooses the part of a line that it encloses. These lines are between the two.
abbrev pub Chooses : Seen → List Seen → Type 0
Chooses o between = (¬ IsSecond between → o.first ≡ true) × (IsSecond between → o.first ≡ false)

-- each line that encloses the line that follows these is used, and chooses the part of that line
abbrev pub EnclosedWell : List Seen → Type 0
EnclosedWell here =
    (outer : List Seen) (o : Seen) (between : List Seen) → here ≡ outer ++ o ∷ between
    → opens o.role ≡ true → ¬ IsClosed between
    → (o.used ≡ true) × Chooses o between

-- a line is marked as used exactly if each line that encloses it is used and chooses its part
abbrev pub IsUsedRight : List Seen → Seen → Type 0
IsUsedRight here x = (x.used ≡ true) ↔ EnclosedWell here

-- ---- how many lines enclose a line

-- the line with this number, from 0, encloses the line that follows these
abbrev pub Encloses : List Seen → ℕ → Type 0
Encloses here i =
    (outer : List Seen) × (o : Seen) × (between : List Seen) × (here ≡ outer ++ o ∷ between)
    × (length outer ≡ i) × (opens o.role ≡ true) × ¬ IsClosed between

-- each number is less than the one before it
abbrev pub AreFalling : ℕ → List ℕ → Type 0
AreFalling n [] = Unit {0}
AreFalling n (i ∷ is) = (i < n) × AreFalling i is

-- a number is in a list
abbrev pub IsOneOf : ℕ → List ℕ → Type 0
IsOneOf i [] = ⊥
IsOneOf i (j ∷ js) = (i ≡ j) ⊎ IsOneOf i js

-- The number of lines that enclose the line that follows these. A list of that length has each of
-- them once, and no other line.
abbrev pub AreEnclosing : ℕ → List Seen → Type 0
AreEnclosing n here = (is : List ℕ) × (length is ≡ n) × AreFalling (length here) is
    × ((i : ℕ) → Encloses here i ↔ IsOneOf i is)
