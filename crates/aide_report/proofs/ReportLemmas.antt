-- The text of a report, silent or full.
use Rattle.std.proofs.Common.{◌≡◌, true, false, if◌then◌else◌, List, [], ap}
use Rattle.aide_conf.specs.declared.options.Options.{Options}
use Rattle.aide_merge.specs.Said.{PathChange}
use Rattle.aide_report_specs.specs.Report.{Origin, is_silent, parts_of, text_of}
use Rattle.aide_text.specs.Overview.{differs}
use Rattle.aide_text.specs.declared.counts.Counts.{Counts}

pub silent_text : (options : Options) (old_origin new_origin : Origin) (counts : Counts) (entries : List PathChange)
    → is_silent options (differs counts) ≡ true
    → text_of options old_origin new_origin counts entries ≡ []
unfolding text_of
silent_text options old_origin new_origin counts entries e =
    ap (λ b. if b then [] else parts_of options old_origin new_origin counts entries) e

pub full_text : (options : Options) (old_origin new_origin : Origin) (counts : Counts) (entries : List PathChange)
    → is_silent options (differs counts) ≡ false
    → text_of options old_origin new_origin counts entries ≡ parts_of options old_origin new_origin counts entries
unfolding text_of
full_text options old_origin new_origin counts entries e =
    ap (λ b. if b then [] else parts_of options old_origin new_origin counts entries) e
