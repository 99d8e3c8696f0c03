use Rattle.std.proofs.Common.{◌≡◌, ◌∙◌, ap, arith, refl, sym, true, false}
use Rattle.aide_entry.specs.Count.{one_more}
use Rattle.aide_db.specs.declared.side.Side.TheVariants.{Old, New}
use Rattle.aide_merge.specs.Seen.{seen}
use Rattle.aide_merge.specs.code.ReadFaults.{IsReadingFault}
use Rattle.aide_merge.specs.declared.run_fault.RunFault.TheVariants.{Open, Database}
use Rattle.aide_merge.proofs.FaultLemmas.{rose_since}
use Rattle.aide_line_run.proofs.OneReadingLemmas.{read_once, rose_more}
use Rattle.aide_merge.proofs.ReadFaultLemmas.{fault_of_new, fault_of_old}
use Rattle.aide_merge.proofs.FaultLemmas.{refused_first}
use Rattle.aide_merge.proofs.KeepLemmas.{desk_none, desk_then}
use Rattle.aide_merge.proofs.PenLemmas.{rose_by_one}
use Rattle.aide_line_run.proofs.in_order.open_in_order.Goals as goal

true_false : true ≡ false → ⊥
true_false e = cc

pub returns-in-Ok-read_old-clause-reads : goal.returns-in-Ok-read_old-clause-reads
returns-in-Ok-read_old-clause-reads g c =
    let s = g.S.Sources in
    let before = c.args.sources.now in
    let opened = c.open-2.new.self in
    let after = c.read_old.new.sources in
    let kept = c.read_old.ensures.sources in
    let same = c.open-2.ensures.keeps.same ∙ c.open.ensures.keeps.same in
    let of_old = ap (λ o. o Old) c.read_old.ensures.openings ∙ c.open-2.ensures.opens.others ∙ c.open.ensures.opens.counts in
    let of_new = ap (λ o. o New) c.read_old.ensures.openings ∙ c.open-2.ensures.opens.counts ∙ ap one_more c.open.ensures.opens.others in
    let fault = c.in-Err-open.ensures.refused.fault in
    record {
      sources = record {
        same = kept.same ∙ same;
        at_same = kept.at_same ∙ c.open-2.ensures.keeps.at_same ∙ c.open.ensures.keeps.at_same;
        missing_same = kept.missing_same ∙ c.open-2.ensures.keeps.missing ∙ c.open.ensures.keeps.missing;
        reliable_same = kept.reliable_same ∙ c.open-2.ensures.keeps.reliable ∙ c.open.ensures.keeps.reliable;
        lookups = kept.lookups ∙ c.open-2.ensures.opens.lookups ∙ c.open.ensures.opens.lookups;
        never_falls = omega (arith, kept.never_falls, c.in-Ok.ensures.opened.ok, fault);
      };
      desk = desk_then same (desk_none c.args.limits (s.bytes_of before) c.args.desk.now) c.read_old.ensures.desk;
      opens = tt;
      opens_some = record { of_old = omega (arith, of_old); of_new = omega (arith, of_new) };
      fault = read_once New refl (fault_of_new
          (λ text told. c.in-Ok-read_old.ensures.sound text (ap (λ bytes. bytes Old) same ∙ told))
          c.in-Ok.ensures.opened.refuses
          (refused_first c.args.limits (s.bytes_of before) New (s.openings before) (s.openings after) (Open New) of_old of_new refl)
          (record {
            first = refl;
            not_given = ap (λ given. given New) c.read_old.ensures.given ∙ c.in-Err-open.ensures.refused.refused;
            caused = rose_more (s.failures before) (s.failures opened) (s.failures after)
                (rose_by_one _ _ _ (omega (arith, c.in-Ok.ensures.opened.ok)) fault) kept.never_falls;
            missing = λ gone. refl;
            reliable = λ is. ap (λ bytes. bytes New) (sym c.open.ensures.keeps.same)
                ∙ c.in-Err-open.ensures.refused.gives_none (c.open.ensures.keeps.reliable ∙ is);
            memory = λ le. tt;
          }));
    }

pub returns-in-Err-read_old-clause-reads : goal.returns-in-Err-read_old-clause-reads
returns-in-Err-read_old-clause-reads g c =
    let s = g.S.Sources in
    let before = c.args.sources.now in
    let opened = c.open-2.new.self in
    let after = c.read_old.new.sources in
    let kept = c.read_old.ensures.sources in
    let same = c.open-2.ensures.keeps.same ∙ c.open.ensures.keeps.same in
    let of_old = ap (λ o. o Old) c.read_old.ensures.openings ∙ c.open-2.ensures.opens.others ∙ c.open.ensures.opens.counts in
    let of_new = ap (λ o. o New) c.read_old.ensures.openings ∙ c.open-2.ensures.opens.counts ∙ ap one_more c.open.ensures.opens.others in
    let refused = c.in-Err-open.ensures.refused.fault in
    let fault = c.in-Err-read_old.ensures.fault in
    record {
      sources = record {
        same = kept.same ∙ same;
        at_same = kept.at_same ∙ c.open-2.ensures.keeps.at_same ∙ c.open.ensures.keeps.at_same;
        missing_same = kept.missing_same ∙ c.open-2.ensures.keeps.missing ∙ c.open.ensures.keeps.missing;
        reliable_same = kept.reliable_same ∙ c.open-2.ensures.keeps.reliable ∙ c.open.ensures.keeps.reliable;
        lookups = kept.lookups ∙ c.open-2.ensures.opens.lookups ∙ c.open.ensures.opens.lookups;
        never_falls = omega (arith, kept.never_falls, c.in-Ok.ensures.opened.ok, refused);
      };
      desk = desk_then same (desk_none c.args.limits (s.bytes_of before) c.args.desk.now) c.read_old.ensures.desk;
      opens = tt;
      opens_some = record { of_old = omega (arith, of_old); of_new = omega (arith, of_new) };
      fault =
          let reading : IsReadingFault c.args.limits (seen s before) (seen s after) Old c.args.desk.now.room
          (Database c.in-Err-read_old.fault) = record {
            first = (fault.of_side, λ text told. fault.first text (ap (λ bytes. bytes Old) same ∙ told));
            not_given = tt;
            caused = λ read. rose_since (s.failures before) (s.failures opened) (s.failures after)
                (omega (arith, c.in-Ok.ensures.opened.ok, refused)) (fault.caused read);
            missing = λ gone. absurd (true_false (sym gone ∙ c.in-Ok.ensures.opened.refuses));
            reliable = λ is read. fault.reliable (c.open-2.ensures.keeps.reliable ∙ c.open.ensures.keeps.reliable ∙ is) read;
            memory = λ le. fault.memory le;
          } in
          read_once Old reading.first (fault_of_old tt reading);
    }
