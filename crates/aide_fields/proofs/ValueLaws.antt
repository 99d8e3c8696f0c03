-- Two values are tested as the same exactly if they are equal.
use Rattle.std.proofs.Common.{◌≡◌, ℕ, List, refl, ap, arith, Option, None, Some, eq-eqb, false, rules}
use Rattle.std.specs.Bool.{Decides}
use Rattle.std.proofs.lemmas.Bool.{eqb-true}
use Rattle.std.proofs.lemmas.Bool.Decides.{Decides-int_eq}
use Rattle.std.proofs.lemmas.Slice.Eq.{bytes_eq-Decides}
use Rattle.aide_attr.specs.declared.file_type.FileType.{FileType}
use Rattle.aide_attr.specs.declared.file_type.FileType.TheVariants.{File, Directory, Link, Char, Block, Fifo, Socket, Other}
use Rattle.aide_fields.specs.Attributes.{Value, is_different, number_value, mode_value, type_value, link_value}
use Rattle.aide_fields.specs.Attributes.{digest_value, opaque_value, number_of_type, same_link, same_value}

same_type : (x y : FileType) → number_of_type x ≡ number_of_type y → x ≡ y
same_type File File e = refl
same_type Directory Directory e = refl
same_type Link Link e = refl
same_type Char Char e = refl
same_type Block Block e = refl
same_type Fifo Fifo e = refl
same_type Socket Socket e = refl
same_type (Other x) (Other y) e = ap Other (omega (arith, e))
same_type x y e = absurd (omega (arith, e))

link-Decides : (x y : Option (List ℕ)) → Decides (same_link x y) (x ≡ y)
link-Decides None None = (λ e. refl, λ p. refl)
link-Decides None (Some y) = (λ e. cc, λ p. cc)
link-Decides (Some x) None = (λ e. cc, λ p. cc)
link-Decides (Some x) (Some y) =
    let d = bytes_eq-Decides x y in (λ e. ap Some (d.0 e), λ p. let q : x ≡ y = cc in d.1 q)

pub same_value-Decides : (x y : Value) → Decides (same_value x y) (x ≡ y)
same_value-Decides (number_value x) (number_value y) =
    let d = Decides-int_eq x y in (λ e. ap number_value (d.0 e), λ p. let q : x ≡ y = cc in d.1 q)
same_value-Decides (type_value x) (type_value y) = search (rules, same_type, eqb-true, eq-eqb)
same_value-Decides (link_value x) (link_value y) =
    let d = link-Decides x y in (λ e. ap link_value (d.0 e), λ p. let q : x ≡ y = cc in d.1 q)
same_value-Decides (digest_value x) (digest_value y) =
    let d = bytes_eq-Decides x y in (λ e. ap digest_value (d.0 e), λ p. let q : x ≡ y = cc in d.1 q)
same_value-Decides (opaque_value x) (opaque_value y) =
    let d = bytes_eq-Decides x y in (λ e. ap opaque_value (d.0 e), λ p. let q : x ≡ y = cc in d.1 q)
same_value-Decides (mode_value x) (mode_value y) =
    (λ e. ap mode_value (eqb-true x y e), λ p. let q : x ≡ y = cc in eq-eqb x y q)
same_value-Decides x y = (λ e. cc, λ p. cc)

-- a value is no other than itself
pub never_different : (o : Option Value) → is_different o o ≡ false
never_different None = refl
never_different (Some x) = rw ((same_value-Decides x x).1 refl) refl
