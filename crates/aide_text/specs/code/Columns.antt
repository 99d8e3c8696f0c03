-- A line of two texts side by side before they are laid into it.
use Rattle.std.specs.Prelude.{ℕ, List, ◌∷◌, ◌++◌, replicate}

-- what follows the head of such a line: two empty columns and the bar between them, and room for the end of the line
abbrev pub blank_pair : List ℕ
blank_pair = replicate 33 32 ++ 124 ∷ replicate 34 32
