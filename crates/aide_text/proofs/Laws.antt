-- Laws of the table of sections.
use Rattle.std.proofs.Common.{◌≡◌, Some, refl}
use Rattle.std.specs.Prelude.{find, nat_eq}
use Rattle.std.specs.Cmp.Lexicographic.{pointwise}
use Rattle.aide_text.specs.Section.{all_sections, title_of, row, row_of}
use Rattle.aide_text.specs.declared.section.Section.{Section}
use Rattle.aide_text.specs.declared.section.TheConstants.Section.{ALL}
use Rattle.aide_text.specs.declared.section.Section.TheVariants.{AddedEntries}

-- Every section is in the list of all sections, and no other one has its title; the second line covers every
-- further section.
pub section_of_its_title : (s : Section)
    → find (λ t. pointwise nat_eq (title_of t) (title_of s)) all_sections ≡ Some s
unfolding row_of row
section_of_its_title AddedEntries = refl
section_of_its_title _ = refl

-- the code's list has these sections, in the order of the report
pub sections_in_order : ALL ≡ all_sections
sections_in_order = refl
