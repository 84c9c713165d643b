use Rattle.std.proofs.Common.{ap, sym}
use Rattle.tc_model.specs.SheetTextPhrases.{instruction_in, instructions}
use Rattle.tc_sheet.proofs.elements.instruction_in.Goals as goal

pub returns-in-text : goal.returns-in-text
returns-in-text c = ap (instruction_in instructions) (sym c.in-text.is)

pub returns-in-text-2 : goal.returns-in-text-2
returns-in-text-2 c = ap (instruction_in instructions) (sym c.in-text-2.is)

pub returns-in-text-3 : goal.returns-in-text-3
returns-in-text-3 c = ap (instruction_in instructions) (sym c.in-text-3.is)

pub returns-in-text-4 : goal.returns-in-text-4
returns-in-text-4 c = ap (instruction_in instructions) (sym c.in-text-4.is)

pub returns-in-choose : goal.returns-in-choose
returns-in-choose c = ap (instruction_in instructions) (sym c.in-choose.is)

pub returns-in-text-5 : goal.returns-in-text-5
returns-in-text-5 c = ap (instruction_in instructions) (sym c.in-text-5.is)

pub returns-in-copy : goal.returns-in-copy
returns-in-copy c = ap (instruction_in instructions) (sym c.in-copy.is)

pub returns-in-element : goal.returns-in-element
returns-in-element c = ap (instruction_in instructions) (sym c.in-element.is)

pub returns-in-attribute : goal.returns-in-attribute
returns-in-attribute c = ap (instruction_in instructions) (sym c.in-attribute.is)

pub returns-in-text-6 : goal.returns-in-text-6
returns-in-text-6 c = ap (instruction_in instructions) (sym c.in-text-6.is)
