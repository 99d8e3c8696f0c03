use Rattle.std.proofs.Common.{ap, codes}
use Rattle.std.specs.Prelude.{option_map}
use Rattle.aide_attr.specs.Level.{level_name}
use Rattle.aide_json.specs.Number.{count}
use Rattle.aide_json.specs.Value.{print_member, text_or_null, truth, word}
use Rattle.aide_line_text.proofs.SettingsLemmas.{settings_parts}
use Rattle.aide_line_text.specs.Settings.{attrs_array, settings_line}
use Rattle.aide_text.proofs.Sheets.{wrote_more, wrote_as}
use Rattle.aide_line_text.proofs.settings.put_settings_line.Goals as goal

pub returns : goal.returns
unfolding settings_line
returns g c =
    let o = c.args.options.now in
    wrote_as (settings_parts (print_member (codes "format", count 3))
    (print_member (text_or_null (codes "database_in") (option_map (λ p. p.now) c.args.old_path)))
    (print_member (text_or_null (codes "database_new") (option_map (λ p. p.now) c.args.new_path)))
    (print_member (codes "report_level", word (level_name o.level)))
    (print_member (codes "report_grouped", truth o.grouped)) (print_member (codes "report_summarize_changes", truth o.summarize))
    (print_member (codes "report_base16", truth o.base16)) (print_member (codes "report_quiet", truth o.quiet))
    (print_member (codes "report_ignore_added_attrs", attrs_array o.ignore.added))
    (print_member (codes "report_ignore_removed_attrs", attrs_array o.ignore.removed))
    (print_member (codes "report_ignore_changed_attrs", attrs_array o.ignore.changed))
    (print_member (codes "report_force_attrs", attrs_array o.ignore.force)))
    (wrote_more c.put.ensures (wrote_more c.put_count_member.ensures
    (wrote_more c.put-2.ensures (wrote_more c.put_path.ensures (wrote_more c.put-3.ensures
    (wrote_more c.put_path-2.ensures (wrote_more c.put-4.ensures
    (wrote_more (wrote_as (ap (λ w. print_member (codes "report_level", word w)) c.name.ensures) c.put_word_member.ensures)
    (wrote_more c.put-5.ensures (wrote_more c.put_switches.ensures
    (wrote_more c.put-6.ensures (wrote_more c.put_sets.ensures c.put-7.ensures))))))))))))
