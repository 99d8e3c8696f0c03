use Rattle.std.proofs.Common.{◌∙◌, sym, rules}
use Rattle.aide_agreement.specs.Found.{found}
use Rattle.aide_left_out.specs.LeftOut.{path_of}
use Rattle.aide_left_out.proofs.Laws.{left_out_from, left_out_means, longer_leaves_out, nothing_left_out, rights_stay}
use Rattle.aide_left_out.proofs.change.left_out.Goals as goal

pub returns-clause-means : goal.returns-clause-means
returns-clause-means c line = (
  λ e. left_out_means c.args.list.now c.args.measures (path_of c.args.old_one c.args.new_one)
      (found c.args.old_one, found c.args.new_one) line (sym c.line_of_change.ensures ∙ e),
  λ h. c.line_of_change.ensures
      ∙ left_out_from c.args.list.now c.args.measures (path_of c.args.old_one c.args.new_one)
      (found c.args.old_one, found c.args.new_one) line h,
)

pub returns-clause-longer : goal.returns-clause-longer
returns-clause-longer c line more e = search (rules, longer_leaves_out)

pub returns-clause-rights : goal.returns-clause-rights
returns-clause-rights c right =
    c.line_of_change.ensures
    ∙ rights_stay c.args.list.now c.args.measures (path_of c.args.old_one c.args.new_one)
    (found c.args.old_one, found c.args.new_one) right

pub returns-clause-nothing : goal.returns-clause-nothing
returns-clause-nothing c e = search (rules, nothing_left_out)
