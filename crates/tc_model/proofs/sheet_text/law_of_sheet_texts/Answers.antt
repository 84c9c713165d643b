use Rattle.tc_model.proofs.SheetTextUnique.{stylesheet_unique, one_sheet_meaning, one_sheet_fault, no_sheet}
use Rattle.tc_model.proofs.sheet_text.law_of_sheet_texts.Goals as goal

pub returns-clause-one : goal.returns-clause-one
returns-clause-one c = λ raw s t a b. one_sheet_meaning a b

pub returns-clause-fault : goal.returns-clause-fault
returns-clause-fault c = λ raw f g m n a b. one_sheet_fault raw f g m n a b

pub returns-clause-none : goal.returns-clause-none
returns-clause-none c = λ raw f m s a b. no_sheet raw f m s a b

pub returns-clause-written : goal.returns-clause-written
returns-clause-written c = λ raw ts us a b. stylesheet_unique a b
