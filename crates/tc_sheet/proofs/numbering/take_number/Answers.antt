use Rattle.std.proofs.Common.{◌≡◌, refl}
use Rattle.tc_sheet.proofs.Passed.{no_value}
use Rattle.tc_sheet.proofs.numbering.take_number.Goals as goal

pub returns-in_err-next-clause-ok : goal.returns-in_err-next-clause-ok
returns-in_err-next-clause-ok c = no_value c.from_residual.result _ _ c.from_residual.ensures.1

pub returns-in_err-next-clause-counted : goal.returns-in_err-next-clause-counted
returns-in_err-next-clause-counted c = no_value c.from_residual.result _ _ c.from_residual.ensures.1

pub returns-clause-ok : goal.returns-clause-ok
returns-clause-ok c = refl

pub returns-clause-counted : goal.returns-clause-counted
returns-clause-counted c = c.in_ok-next.ensures.ok

pub returns-clause-no : goal.returns-clause-no
returns-clause-no c = tt
