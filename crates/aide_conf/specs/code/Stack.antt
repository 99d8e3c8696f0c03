-- The open blocks that the code keeps, the innermost first.
use Rattle.std.specs.Prelude.{◌≡◌, Bool, true, false, not, ◌&&◌, List, [], ◌∷◌, ◌++◌, reverse}
use Rattle.aide_conf.specs.declared.blocks.Frame.{Frame}
use Rattle.aide_conf.specs.declared.blocks.Blocks.{Blocks}
use Rattle.aide_conf.specs.Blocks.{BlockRole, Opens, Divides, Closes, Single, Seen, opens, divides}
use Rattle.aide_conf.specs.Blocks.{Balanced, IsUsedRight}

-- exactly one of the two is true
abbrev pub differ : Bool → Bool → Bool
differ true s = not s
differ false s = s

-- whether the lines in an open block are used
abbrev pub frame_used : Frame → Bool
frame_used f = f.used && differ f.first f.second

-- whether the next line is used
abbrev pub top_used : List Frame → Bool
top_used [] = true
top_used (f ∷ fs) = frame_used f

-- whether the innermost block is in its second part
abbrev pub top_divided : List Frame → Bool
top_divided [] = false
top_divided (f ∷ fs) = f.second

-- the open blocks after a line that begins one
abbrev pub opened : Bool → Bool → List Frame → List Frame
opened used first fs = record { used = used; first = first; second = false } ∷ fs

-- the open blocks after a line that begins the second part of the innermost one
abbrev pub divided_at : List Frame → List Frame
divided_at [] = []
divided_at (f ∷ fs) = record f { second = true } ∷ fs

-- the open blocks after a line that ends the innermost one
abbrev pub closed_at : List Frame → List Frame
closed_at [] = []
closed_at (f ∷ fs) = fs

-- the open blocks, the innermost first; the code keeps them with the outermost first
abbrev pub frames_of : {A : Type 0} → Blocks A → List Frame
frames_of b = reverse b.frames.items

-- the open blocks after another line
abbrev pub frames_after : BlockRole → Bool → Bool → List Frame → List Frame
frames_after Opens used first fs = opened used first fs
frames_after Divides used first fs = divided_at fs
frames_after Closes used first fs = closed_at fs
frames_after Single used first fs = fs

-- ---- what the frames mean

-- The lines between an opening line and the line that is read. If `second` is false, they are one
-- part. If it is true, they are one part, a dividing line and another part.
abbrev pub Body : Bool → List Seen → Type 0
Body false w = Balanced w
Body true w =
    (ys : List Seen) × (d : Seen) × (zs : List Seen) × (w ≡ ys ++ d ∷ zs) × Balanced ys
    × (divides d.role ≡ true) × Balanced zs

-- the lines of a text so far, with their open blocks, the innermost first
abbrev pub IsOpen : List Seen → List Frame → Type 0
IsOpen here [] = Balanced here
IsOpen here (f ∷ fs) =
    (outer : List Seen) × (o : Seen) × (w : List Seen) × (here ≡ outer ++ o ∷ w)
    × (opens o.role ≡ true) × Body f.second w
    × (o.used ≡ f.used) × (o.first ≡ f.first) × IsUsedRight outer o × IsOpen outer fs
