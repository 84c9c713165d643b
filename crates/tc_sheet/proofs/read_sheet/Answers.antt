use Rattle.std.proofs.Common.{sym, subst, IfOk}
use Rattle.tc_model.specs.RawTrees.{none}
use Rattle.tc_model.specs.Views.{raw_tree, raw_element, sheet}
use Rattle.tc_model.specs.SheetText.{SheetText, SheetFails, undefined, call_loop}
use Rattle.tc_sheet.specs.Changes.{mended, flattened, Changed}
use Rattle.tc_sheet.specs.Faults.{IsCause, IsUnsupported, IsTooDeep, IsUndefinedAt, IsLoopAt, NamesAgain, IsMalformedAt}
use Rattle.tc_sheet.proofs.WholeSheets.{element_tree, tell}
use Rattle.tc_sheet.proofs.read_sheet.Goals as goal

pub returns-clause-ok : goal.returns-clause-ok
returns-clause-ok c = subst (λ h. IfOk c.sheet_in.result (λ r. SheetText h (sheet r))) (sym (element_tree c.args.raw.now c.in-Elem.element c.in-Elem.is)) c.sheet_in.ensures.ok

pub returns-clause-cause : goal.returns-clause-cause
returns-clause-cause c = tell (raw_element c.in-Elem.element none) (IsCause (raw_tree c.args.raw.now)) (λ x b. subst (λ h. IsCause h x) (sym (element_tree c.args.raw.now c.in-Elem.element c.in-Elem.is)) b.cause) c.sheet_in.result c.sheet_in.ensures.no

pub returns-clause-unsupported : goal.returns-clause-unsupported
returns-clause-unsupported c = λ changed s k t. tell (raw_element c.in-Elem.element none) IsUnsupported (λ x b. b.unsupported changed s (subst (λ h. Changed mended h changed) (element_tree c.args.raw.now c.in-Elem.element c.in-Elem.is) k) t) c.sheet_in.result c.sheet_in.ensures.no

pub returns-clause-deep : goal.returns-clause-deep
returns-clause-deep c = λ changed s k t. tell (raw_element c.in-Elem.element none) IsTooDeep (λ x b. b.deep changed s (subst (λ h. Changed flattened h changed) (element_tree c.args.raw.now c.in-Elem.element c.in-Elem.is) k) t) c.sheet_in.result c.sheet_in.ensures.no

pub returns-clause-no_template : goal.returns-clause-no_template
returns-clause-no_template c = λ p f. tell (raw_element c.in-Elem.element none) (IsUndefinedAt p) (λ x b. b.no_template p (subst (λ h. SheetFails h undefined p) (element_tree c.args.raw.now c.in-Elem.element c.in-Elem.is) f)) c.sheet_in.result c.sheet_in.ensures.no

pub returns-clause-loops : goal.returns-clause-loops
returns-clause-loops c = λ p f. tell (raw_element c.in-Elem.element none) (IsLoopAt p) (λ x b. b.loops p (subst (λ h. SheetFails h call_loop p) (element_tree c.args.raw.now c.in-Elem.element c.in-Elem.is) f)) c.sheet_in.result c.sheet_in.ensures.no

pub returns-clause-again : goal.returns-clause-again
returns-clause-again c = λ p f. tell (raw_element c.in-Elem.element none) (IsMalformedAt p) (λ x b. b.again p (subst (λ h. NamesAgain h p) (element_tree c.args.raw.now c.in-Elem.element c.in-Elem.is) f)) c.sheet_in.result c.sheet_in.ensures.no
