use Rattle.std.proofs.Common.{◌≡◌, refl}
use Rattle.tc_sheet.specs.declared.faults.SheetFault.{SheetFault}
use Rattle.tc_sheet.specs.declared.faults.SheetFault.TheVariants.{NoMemory}
use Rattle.tc_sheet.proofs.Passed.{passed_on}
use Rattle.tc_sheet.proofs.numbering.put_named.Goals as goal

pub returns-in_err-push : goal.returns-in_err-push
returns-in_err-push c = passed_on _ (λ (e : SheetFault). e ≡ NoMemory) c.from_residual.result NoMemory c.from_residual.ensures.1 refl
