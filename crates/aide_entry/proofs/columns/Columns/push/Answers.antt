use Rattle.std.proofs.Common.{arith, length, take, sym, subst, ◌≡◌}
use Rattle.std.proofs.lemmas.List.{take_more_set, length-take-le}
use Rattle.std.proofs.lemmas.List.Elements.{All-push}
use Rattle.std.specs.List.{All}
use Rattle.aide_entry.specs.code.Codes.{code_of}
use Rattle.aide_entry.specs.code.ColumnAttrs.{AreListed}
use Rattle.aide_entry.specs.code.FirstColumns.{AreFirstColumns}
use Rattle.aide_entry.specs.code.Shapes.{shape_of, IsShort}
use Rattle.aide_entry.proofs.FirstColumnLemmas.{pushed_map}
use Rattle.aide_entry.proofs.columns.Columns.push.Goals as goal

pub invariant_of-self-clause-numbers : goal.invariant_of-self-clause-numbers
invariant_of-self-clause-numbers c =
    pushed_map code_of c.args.self.now.codes c.args.self.now.kinds c.args.self.now.count c.code_of.result c.args.column
    (omega (arith, c.args.self.now.few)) (omega (arith, c.args.self.now.few)) c.code_of.ensures.same c.args.self.now.numbers

pub invariant_of-self-clause-shaped : goal.invariant_of-self-clause-shaped
invariant_of-self-clause-shaped c =
    pushed_map shape_of c.args.self.now.shapes c.args.self.now.kinds c.args.self.now.count c.shape_of.result c.args.column
    (omega (arith, c.args.self.now.few)) (omega (arith, c.args.self.now.few)) c.shape_of.ensures.same c.args.self.now.shaped

pub invariant_of-self-clause-placed : goal.invariant_of-self-clause-placed
invariant_of-self-clause-placed c =
    let size : length (take c.args.self.now.count c.args.self.now.kinds) ≡ c.args.self.now.count =
    length-take-le c.args.self.now.count c.args.self.now.kinds (omega (arith, c.args.self.now.few)) in
    subst (AreFirstColumns c.note_first.new.firsts)
    (sym (take_more_set c.args.self.now.kinds c.args.self.now.count c.args.column (omega (arith, c.args.self.now.few))))
    (c.note_first.ensures (take c.args.self.now.count c.args.self.now.kinds) (omega (arith, size)) c.args.self.now.placed)

pub invariant_of-self-clause-short : goal.invariant_of-self-clause-short
invariant_of-self-clause-short c =
    subst (All IsShort) (sym (take_more_set c.args.self.now.shapes c.args.self.now.count c.shape_of.result
    (omega (arith, c.args.self.now.few))))
    (All-push IsShort (take c.args.self.now.count c.args.self.now.shapes) c.shape_of.result c.args.self.now.short c.shape_of.ensures.short)

pub invariant_of-self-clause-listed : goal.invariant_of-self-clause-listed
invariant_of-self-clause-listed c =
    subst (AreListed (take c.note_attrs.result c.note_attrs.new.attrs))
    (sym (take_more_set c.args.self.now.kinds c.args.self.now.count c.args.column (omega (arith, c.args.self.now.few))))
    (c.note_attrs.ensures.listed (take c.args.self.now.count c.args.self.now.kinds) c.args.self.now.listed)
