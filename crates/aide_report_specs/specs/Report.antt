-- The report over two databases, the outcome and the status.
use Rattle.std.specs.Prelude.{ℕ, ◌&&◌, not, Bool, if◌then◌else◌, List, [], ◌∷◌, ◌++◌, length}
use Rattle.std.specs.Prelude.{codes}
use Rattle.std.specs.List.{flat_map}
use Rattle.aide_attr.specs.declared.level.Level.TheVariants.{DatabaseAttributes}
use Rattle.aide_conf.specs.declared.options.Options.{Options}
use Rattle.aide_merge.specs.Compare.{changes}
use Rattle.aide_merge.specs.Said.{PathChange}
use Rattle.aide_report_specs.specs.Sections.{sections_of, section_text}
use Rattle.aide_text.specs.Overview.{differs, overview_by, when}
use Rattle.aide_attr.specs.Level.{reaches}
use Rattle.aide_text.specs.Layout.{alone, path_line}
use Rattle.aide_text.specs.Titles.{titled}
use Rattle.aide_text.specs.ValueText.{digest_text}
use Rattle.aide_db.specs.Map.{Database}
use Rattle.aide_text.specs.declared.counts.Counts.{Counts}
use Rattle.aide_merge.specs.Outcomes.{counts_of}

-- ---- the databases

-- the configured path of a database, and the SHA-256 of its bytes
pub record Origin : Type 0 where
  pub path : List ℕ
  pub digest : List ℕ

-- a line with a word and the path of a database, and then the digest of the database
unfoldable pub origin_lines : Bool → List ℕ → List ℕ → List ℕ → List ℕ
origin_lines base16 word path digest = path_line word path
    ++ alone (codes "SHA256") (digest_text base16 digest)

-- the lines about one database, with this word for it
abbrev pub origin_text : Bool → List ℕ → Origin → List ℕ
origin_text base16 word origin = origin_lines base16 word origin.path origin.digest

-- the title of the part about the databases
unfoldable pub databases_title : List ℕ
databases_title = titled (codes "The attributes of the databases:") ++ 10 ∷ []

-- the part about the databases: its title, the old database and the new one
unfoldable pub databases_of : Bool → Origin → Origin → List ℕ
databases_of base16 old_origin new_origin =
    databases_title
    ++ (origin_text base16 (codes "Old database") old_origin
    ++ origin_text base16 (codes "New database") new_origin)

-- ---- the whole

-- the texts of all sections of entries that the report contains
unfoldable pub sections_text : Options → Counts → List PathChange → List ℕ
sections_text options counts entries =
    flat_map (section_text options entries) (sections_of options counts)

-- the part about the databases, if the level reaches it
unfoldable pub databases_text : Options → Origin → Origin → List ℕ
databases_text options old_origin new_origin =
    when (reaches options.level DatabaseAttributes)
    (databases_of options.base16 old_origin new_origin)

-- the parts of a report that is not silent: its head and summary, the sections, the databases
unfoldable pub parts_of : Options → Origin → Origin → Counts → List PathChange → List ℕ
parts_of options old_origin new_origin counts entries =
    overview_by options.level counts
    ++ (sections_text options counts entries ++ databases_text options old_origin new_origin)

-- a quiet report of no differences is empty
abbrev pub is_silent : Options → Bool → Bool
is_silent options differ = options.quiet && not differ

-- a report with these counts and changes: all parts, or the empty text if it is silent
unfoldable pub text_of : Options → Origin → Origin → Counts → List PathChange → List ℕ
text_of options old_origin new_origin counts entries =
    if is_silent options (differs counts) then []
    else parts_of options old_origin new_origin counts entries

-- how many sections of entries the report contains
abbrev pub section_count : Options → Counts → ℕ
section_count options counts =
    if is_silent options (differs counts) then 0 else length (sections_of options counts)

-- the report over two maps from paths to attributes, byte by byte
abbrev pub report_of : Options → Origin → Origin → Database → Database → List ℕ
report_of options old_origin new_origin old new =
    text_of options old_origin new_origin (counts_of options old new) (changes old new)
