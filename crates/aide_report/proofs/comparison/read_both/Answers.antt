use Rattle.std.proofs.Common.{◌∙◌, ap, refl, rules}
use Rattle.aide_entry.specs.Count.{one_more}
use Rattle.aide_db.specs.declared.side.Side.TheVariants.{Old, New}
use Rattle.aide_merge.specs.Seen.{seen}
use Rattle.aide_report.proofs.GivenLemmas.{gave_once}
use Rattle.aide_report.proofs.MissingLemmas.{both_there}
use Rattle.aide_merge.proofs.KeepLemmas.{clears, sources_none, sources_then}
use Rattle.aide_report.proofs.ReadingLemmas.{clears_read, finding_new, finding_old, reading_then}
use Rattle.aide_merge.proofs.SideLemmas.{of_sides}
use Rattle.aide_report.proofs.comparison.read_both.Goals as goal

pub returns-in-Err : goal.returns-in-Err
returns-in-Err g c = record {
  sources = c.read_whole.ensures.sources;
  opens = search rules;
  opens_some = search rules;
  read = tt;
  gave = search rules;
  fault = finding_old (c.read_whole.ensures.opens.opens, c.read_whole.ensures.opens.others)
      (reading_then (sources_none (seen g.S.Sources c.args.sources.now)) c.clear.ensures.room c.in-Err.ensures.fault);
  desk = clears_read Old refl
      (clears c.args.limits (g.S.Sources.bytes_of c.args.sources.now) c.args.desk.now c.clear.new.desk
      c.clear.ensures.old c.clear.ensures.new c.clear.ensures.peak c.clear.ensures.room)
      c.read_whole.ensures.room c.read_whole.ensures.fits;
}

pub returns-in-Err-read_whole : goal.returns-in-Err-read_whole
returns-in-Err-read_whole g c = record {
  sources = sources_then c.read_whole.ensures.sources c.read_whole-2.ensures.sources;
  opens = search rules;
  opens_some = search rules;
  read = tt;
  gave = search rules;
  fault =
      let first = c.read_whole.ensures.opens in
      let second = c.read_whole-2.ensures.opens in
      finding_new (second.others ∙ first.opens, second.opens ∙ ap one_more first.others)
      (λ text told. (c.in-Ok.ensures.read.sound text told).0) c.in-Ok.ensures.read.refuses
      (reading_then c.read_whole.ensures.sources (c.read_whole.ensures.room ∙ c.clear.ensures.room) c.in-Err-read_whole.ensures.fault);
  desk = let first = clears_read Old refl
      (clears c.args.limits (g.S.Sources.bytes_of c.args.sources.now) c.args.desk.now c.clear.new.desk
      c.clear.ensures.old c.clear.ensures.new c.clear.ensures.peak c.clear.ensures.room)
      c.read_whole.ensures.room c.read_whole.ensures.fits in
      clears_read New c.read_whole.ensures.sources.same first c.read_whole-2.ensures.room c.read_whole-2.ensures.fits;
}

pub returns : goal.returns
returns g c = record {
  sources = sources_then c.read_whole.ensures.sources c.read_whole-2.ensures.sources;
  opens = search rules;
  opens_some = search rules;
  read = search (rules, of_sides, both_there);
  gave = search (rules, gave_once, of_sides);
  fault = tt;
  desk = let first = clears_read Old refl
      (clears c.args.limits (g.S.Sources.bytes_of c.args.sources.now) c.args.desk.now c.clear.new.desk
      c.clear.ensures.old c.clear.ensures.new c.clear.ensures.peak c.clear.ensures.room)
      c.read_whole.ensures.room c.read_whole.ensures.fits in
      clears_read New c.read_whole.ensures.sources.same first c.read_whole-2.ensures.room c.read_whole-2.ensures.fits;
}
