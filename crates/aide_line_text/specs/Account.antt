-- What accounts for a change, as a line names it.
use Rattle.std.specs.Prelude.{Option, Some, None}
use Rattle.aide_agreement.specs.declared.account.SameAs.{SameAs}
use Rattle.aide_agreement.specs.declared.account.SameAs.TheVariants as same
use Rattle.aide_line_text.specs.declared.account.Account.{Account}
use Rattle.aide_line_text.specs.declared.account.Account.TheVariants.{Old, Trusted}

-- an entry that accounts for a change
abbrev pub account_as : Option SameAs → Option Account
account_as None = None
account_as (Some same.Old) = Some Old
account_as (Some same.Trusted) = Some Trusted
