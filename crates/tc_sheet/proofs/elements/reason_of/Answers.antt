use Rattle.std.proofs.Common.{ap, sym}
use Rattle.tc_sheet.specs.Constructs.{reason_in, reasons}
use Rattle.tc_sheet.proofs.elements.reason_of.Goals as goal

pub returns-in-variable : goal.returns-in-variable
returns-in-variable c = ap (reason_in reasons) (sym c.in-variable.is)

pub returns-in-param : goal.returns-in-param
returns-in-param c = ap (reason_in reasons) (sym c.in-param.is)

pub returns-in-text : goal.returns-in-text
returns-in-text c = ap (reason_in reasons) (sym c.in-text.is)

pub returns-in-import : goal.returns-in-import
returns-in-import c = ap (reason_in reasons) (sym c.in-import.is)

pub returns-in-include : goal.returns-in-include
returns-in-include c = ap (reason_in reasons) (sym c.in-include.is)

pub returns-in-sort : goal.returns-in-sort
returns-in-sort c = ap (reason_in reasons) (sym c.in-sort.is)

pub returns-in-number : goal.returns-in-number
returns-in-number c = ap (reason_in reasons) (sym c.in-number.is)

pub returns-in-key : goal.returns-in-key
returns-in-key c = ap (reason_in reasons) (sym c.in-key.is)

pub returns-in-message : goal.returns-in-message
returns-in-message c = ap (reason_in reasons) (sym c.in-message.is)

pub returns-in-comment : goal.returns-in-comment
returns-in-comment c = ap (reason_in reasons) (sym c.in-comment.is)

pub returns-in-text-2 : goal.returns-in-text-2
returns-in-text-2 c = ap (reason_in reasons) (sym c.in-text-2.is)

pub returns-in-text-3 : goal.returns-in-text-3
returns-in-text-3 c = ap (reason_in reasons) (sym c.in-text-3.is)

pub returns-in-text-4 : goal.returns-in-text-4
returns-in-text-4 c = ap (reason_in reasons) (sym c.in-text-4.is)

pub returns-in-text-5 : goal.returns-in-text-5
returns-in-text-5 c = ap (reason_in reasons) (sym c.in-text-5.is)

pub returns-in-text-6 : goal.returns-in-text-6
returns-in-text-6 c = ap (reason_in reasons) (sym c.in-text-6.is)

pub returns-in-fallback : goal.returns-in-fallback
returns-in-fallback c = ap (reason_in reasons) (sym c.in-fallback.is)

pub returns-in-text-7 : goal.returns-in-text-7
returns-in-text-7 c = ap (reason_in reasons) (sym c.in-text-7.is)
