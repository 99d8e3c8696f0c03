-- What a report says first.
use Rattle.std.proofs.Common.{◌≡◌, ◌≤◌, ◌<◌, ◌∙◌, ℕ, Bool, true, false, if◌then◌else◌, List, [], ◌++◌, Option, refl, sym, ap, subst, arith}
use Rattle.std.proofs.lemmas.Bool.{leb-false, lt-leb}
use Rattle.std.specs.Prelude.{◌&&◌, not}
use Rattle.std.specs.Io.KnownBytes.{Keeps}
use Rattle.aide_attr.specs.declared.level.Level.{Level}
use Rattle.aide_attr.specs.declared.level.Level.TheVariants.{DatabaseAttributes}
use Rattle.aide_conf.specs.declared.options.Options.{Options}
use Rattle.aide_report_specs.specs.Agreement.{BeginsWith, beginning_of, goes_on}
use Rattle.aide_report_specs.specs.Report.{Origin, databases_of, databases_text, is_silent}
use Rattle.aide_text.specs.Overview.{overview_of, when, databases_differ}
use Rattle.aide_report_specs.specs.Sections.{has_entry, is_there}
use Rattle.aide_text.specs.Section.{contents_of, fits, grouped_of, level_of, row, row_of}
use Rattle.aide_attr.specs.Level.{rank, reaches}
use Rattle.aide_text.specs.Sheet.{Sheet, Wrote, WritesFirst, WritesSome}
use Rattle.aide_text.specs.declared.counts.Counts.{Counts}
use Rattle.aide_text.specs.declared.section.Section.{Section}
use Rattle.aide_text.specs.declared.section.Section.TheVariants.{AddedEntries}
use Rattle.aide_merge.proofs.PenLemmas.{flushed_whole}
use Rattle.aide_text.proofs.Sheets.{wrote_more, wrote_nothing}

-- below a level, and so below each level behind it
none_behind : (level first later : Level) → rank first ≤ rank later → reaches level first ≡ false
    → reaches level later ≡ false
none_behind level first later behind below =
    let less : rank level < rank first = leb-false (rank first) (rank level) below in
    lt-leb (rank later) (rank level) (omega (arith, behind, less))

-- no section is of a level before that of the databases; the second line covers every further section
late : (section : Section) → rank DatabaseAttributes ≤ rank (level_of section)
unfolding row_of row
late AddedEntries = omega arith
late _ = omega arith

-- below the level of the databases there is no section
pub none_there : (options : Options) (counts : Counts) (section : Section)
    → reaches options.level DatabaseAttributes ≡ false → is_there options counts section ≡ false
none_there options counts section below =
    ap (λ b. (b && fits (grouped_of section) options.grouped) && has_entry counts (contents_of section))
    (none_behind options.level DatabaseAttributes (level_of section) (late section) below)

-- nor the databases
pub no_databases : (options : Options) (old_origin new_origin : Origin)
    → reaches options.level DatabaseAttributes ≡ false → databases_text options old_origin new_origin ≡ []
unfolding databases_text
no_databases options old_origin new_origin below =
    ap (λ b. when b (databases_of options.base16 old_origin new_origin)) below

pub first_nothing : (wants_more : Bool) (a : Sheet) → WritesFirst [] wants_more a a
first_nothing wants_more a = record { rest = []; wrote = wrote_nothing a; alone = λ e. refl }

-- where more is wanted, some bytes may follow
pub first_some : {a b : Sheet} (wants_more : Bool) → (wants_more ≡ false → ⊥) → WritesSome a b
    → WritesFirst [] wants_more a b
first_some {a} {b} wants_more wanted p = record { rest = p.text; wrote = p.wrote; alone = λ e. absurd (wanted e) }

-- the first text, what follows it, and a last text where more is wanted
pub first_then : {text last : List ℕ} {a b c d : Sheet} (wants_more : Bool) → (wants_more ≡ false → last ≡ [])
    → Wrote text a b → WritesFirst [] wants_more b c → Wrote last c d → WritesFirst text wants_more a d
first_then {text} {last} {a} {b} {c} {d} wants_more none p q r = record {
  rest = q.rest ++ last;
  wrote = wrote_more p (wrote_more q.wrote r);
  alone = λ e. ap (λ xs. xs ++ last) (q.alone e) ∙ none e;
}

first_by : (options : Options) (total added removed changed : ℕ) (wants_more silent : Bool) (a b : Sheet)
    → is_silent options (databases_differ added removed changed) ≡ silent
    → WritesFirst (if silent then [] else overview_of options.level total added removed changed)
    (not silent && reaches options.level DatabaseAttributes) a b
    → WritesFirst (beginning_of options total added removed changed) (goes_on options added removed changed) a b
first_by options total added removed changed wants_more silent a b is p =
    subst (λ x. WritesFirst (if x then [] else overview_of options.level total added removed changed)
    (not x && reaches options.level DatabaseAttributes) a b) (sym is) p

pub first_silent : (options : Options) (total added removed changed : ℕ) (a : Sheet)
    → is_silent options (databases_differ added removed changed) ≡ true
    → WritesFirst (beginning_of options total added removed changed) (goes_on options added removed changed) a a
first_silent options total added removed changed a is =
    first_by options total added removed changed false true a a is (first_nothing false a)

pub first_full : (options : Options) (total added removed changed : ℕ) (a b : Sheet)
    → is_silent options (databases_differ added removed changed) ≡ false
    → WritesFirst (overview_of options.level total added removed changed) (reaches options.level DatabaseAttributes) a b
    → WritesFirst (beginning_of options total added removed changed) (goes_on options added removed changed) a b
first_full options total added removed changed a b is p =
    first_by options total added removed changed (reaches options.level DatabaseAttributes) false a b is p

-- the same of a sink, after a flush
pub begins : {text : List ℕ} {wants_more : Bool} {a b : Sheet} (c : Option (List ℕ)) → a.failed ≡ false
    → b.failed ≡ false → WritesFirst text wants_more a b → Keeps b.bytes c
    → BeginsWith text wants_more a.bytes c
begins {text} {wants_more} {a} {b} c fresh on p kept =
    record { rest = p.rest; bytes = flushed_whole c fresh on p.wrote kept; alone = p.alone }
