use Rattle.std.proofs.Common.{◌∙◌, ap, arith, refl, sym, rules}
use Rattle.aide_db.specs.declared.side.Side.TheVariants.{Old, New}
use Rattle.aide_report.proofs.FaultLemmas.{first_later}
use Rattle.aide_report.proofs.GivenLemmas.{gave_then}
use Rattle.aide_report.proofs.MissingLemmas.{fault_of_pass}
use Rattle.aide_report.proofs.PassLemmas.{fault_then}
use Rattle.aide_merge.proofs.KeepLemmas.{sources_then}
use Rattle.aide_merge.proofs.KeepLemmas.{clears_then}
use Rattle.aide_report.proofs.RunLemmas.{counts_are}
use Rattle.aide_report.proofs.SectionsLemmas.{opens_more, opens_then, opens_within}
use Rattle.aide_report.proofs.comparison.compare.Goals as goal

pub count_pass-requires-clause-digests : goal.count_pass-requires-clause-digests
count_pass-requires-clause-digests g c side text told =
    c.in-Ok.ensures.read.digests side text (ap (λ bytes. bytes side) (sym c.read_both.ensures.sources.same) ∙ told)

-- ---- a fault of the first readings

pub returns-in-Err : goal.returns-in-Err
returns-in-Err g c = record {
  sources = c.read_both.ensures.sources;
  opens = search rules;
  opens_some = opens_within _ _ 1 2 (omega arith) c.read_both.ensures.opens_some;
  found = tt;
  gave = search rules;
  fault = c.in-Err.ensures.fault;
  desk = c.read_both.ensures.desk;
}

-- ---- the counting pass

pub returns-in-Ok-count_pass : goal.returns-in-Ok-count_pass
returns-in-Ok-count_pass g c = record {
  sources = sources_then c.read_both.ensures.sources c.count_pass.ensures.passes.sources;
  opens = opens_more _ _ _ 1 1 _ refl c.in-Ok.ensures.opens c.in-Ok-count_pass.ensures.passes.opens;
  opens_some = opens_then _ _ _ 1 1 _ (omega arith) c.in-Ok.ensures.opens c.count_pass.ensures.passes.opens_some;
  found =
      let read = c.in-Ok.ensures.read in
      let same = c.read_both.ensures.sources.same in
      record {
        sound = read.sound;
        there = read.there;
        of_texts = λ old new told_old told_new. record {
          counts = counts_are c.args.limits c.args.options.now c.in-Ok-count_pass.counts old new
              (read.sound Old old told_old) (read.sound New new told_new)
              (c.in-Ok-count_pass.ensures.counts old new
              (ap (λ bytes. bytes Old) same ∙ told_old) (ap (λ bytes. bytes New) same ∙ told_new));
          skipped_old = read.skipped_old old told_old;
          skipped_new = read.skipped_new new told_new;
        };
        digests = read.digests;
      };
  gave = gave_then c.read_both.ensures.sources.at_same c.in-Ok.ensures.gave c.in-Ok-count_pass.ensures.gave;
  fault = tt;
  desk = clears_then c.read_both.ensures.sources.same c.read_both.ensures.desk c.count_pass.ensures.passes.desk;
}

-- ---- a fault of it

pub returns-in-Err-count_pass : goal.returns-in-Err-count_pass
returns-in-Err-count_pass g c = record {
  sources = sources_then c.read_both.ensures.sources c.count_pass.ensures.passes.sources;
  opens = search rules;
  opens_some = opens_then _ _ _ 1 1 _ (omega arith) c.in-Ok.ensures.opens c.count_pass.ensures.passes.opens_some;
  found = tt;
  gave = search rules;
  fault =
      let is = fault_then 1 c.read_both.ensures.sources c.in-Ok.ensures.opens c.read_both.ensures.desk.room
      c.in-Err-count_pass.ensures.passes.fault in
      record {
        read = fault_of_pass c.in-Ok.ensures.read.there c.in-Ok.ensures.read.sound is;
        opens_first = first_later c.args.limits (g.S.Sources.bytes_of c.args.sources.now) (g.S.Sources.openings c.args.sources.now)
            (g.S.Sources.openings c.count_pass.new.sources) c.in-Err-count_pass.fault is.later;
      };
  desk = clears_then c.read_both.ensures.sources.same c.read_both.ensures.desk c.count_pass.ensures.passes.desk;
}
