use Rattle.std.proofs.Common.{refl, sym}
use Rattle.aide_agreement.specs.Account.{same_as}
use Rattle.aide_agreement.specs.Found.{found}
use Rattle.aide_agreement.proofs.Laws.{trusted_changed}
use Rattle.aide_agreement.proofs.TrustedLaws.{rights_came_too}
use Rattle.aide_agreement.proofs.account.same_as.Goals as goal

pub returns-then-is_as_old-clause-account : goal.returns-then-is_as_old-clause-account
unfolding same_as
returns-then-is_as_old-clause-account c = rw (sym c.if-is_as_old.ensures) refl

pub returns-then-is_as_old-clause-trusted : goal.returns-then-is_as_old-clause-trusted
returns-then-is_as_old-clause-trusted c = λ is. cc

pub returns-then-is_as_old-clause-rights : goal.returns-then-is_as_old-clause-rights
returns-then-is_as_old-clause-rights c = λ is. cc

pub returns-then-is_as_trusted-clause-account : goal.returns-then-is_as_trusted-clause-account
unfolding same_as
returns-then-is_as_trusted-clause-account c = rw (sym c.if-is_as_old.ensures, sym c.if-is_as_trusted.ensures) refl

pub returns-then-is_as_trusted-clause-trusted : goal.returns-then-is_as_trusted-clause-trusted
unfolding same_as
returns-then-is_as_trusted-clause-trusted c = λ is.
    trusted_changed (found c.args.old, found c.args.new) (found c.args.trusted_old, found c.args.trusted_new)
    (rw (sym c.if-is_as_old.ensures, sym c.if-is_as_trusted.ensures) refl)

pub returns-then-is_as_trusted-clause-rights : goal.returns-then-is_as_trusted-clause-rights
unfolding same_as
returns-then-is_as_trusted-clause-rights c = λ is.
    rights_came_too (found c.args.old, found c.args.new) (found c.args.trusted_old, found c.args.trusted_new)
    (rw (sym c.if-is_as_old.ensures, sym c.if-is_as_trusted.ensures) refl)

pub returns-clause-account : goal.returns-clause-account
unfolding same_as
returns-clause-account c = rw (sym c.if-is_as_old.ensures, sym c.if-is_as_trusted.ensures) refl

pub returns-clause-trusted : goal.returns-clause-trusted
returns-clause-trusted c = λ is. cc

pub returns-clause-rights : goal.returns-clause-rights
returns-clause-rights c = λ is. cc
