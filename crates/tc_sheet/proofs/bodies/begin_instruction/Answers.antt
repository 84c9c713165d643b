use Rattle.std.proofs.Common.{◌≡◌, subst, sym, Result, IfOk, IfErr}
use Rattle.tc_model.specs.RawTrees.{none}
use Rattle.tc_model.specs.Views.{raw_element}
use Rattle.tc_model.specs.declared.tree.RawElem.{RawElem}
use Rattle.tc_sheet.specs.Begun.{IsBegunBy}
use Rattle.tc_sheet.specs.LookedAt.{IsIn, in_body}
use Rattle.tc_sheet.specs.Readings.{IsRead, Refuses, HasNoInstruction}
use Rattle.tc_sheet.specs.Views.{instruction}
use Rattle.tc_sheet.specs.declared.bodies.Begun.{Begun}
use Rattle.tc_sheet.specs.declared.elements.Instruction.{Instruction}
use Rattle.tc_sheet.specs.declared.faults.SheetFault.{SheetFault}
use Rattle.tc_sheet.proofs.ReadLaws.{no_attribute_read}
use Rattle.tc_sheet.proofs.bodies.begin_instruction.Goals as goal

begun : (e : RawElem) (k l : Instruction) (r : Result Begun SheetFault) → k ≡ l → IfOk r (IsBegunBy (instruction l) e) → IfOk r (IsBegunBy (instruction k) e)
begun e k l r is a = subst (λ (x : Instruction). IfOk r (IsBegunBy (instruction x) e)) (sym is) a

refused : (e : RawElem) (k l : Instruction) (r : Result Begun SheetFault) → k ≡ l → IfErr r (λ x. Refuses x (IsIn in_body (raw_element e none)) (HasNoInstruction (instruction l) e))
    → IfErr r (λ x. Refuses x (IsIn in_body (raw_element e none)) (HasNoInstruction (instruction k) e))
refused e k l r is a = subst (λ (y : Instruction). IfErr r (λ x. Refuses x (IsIn in_body (raw_element e none)) (HasNoInstruction (instruction y) e))) (sym is) a

pub returns-in-Attribute-clause-ok : goal.returns-in-Attribute-clause-ok
returns-in-Attribute-clause-ok c = subst (λ (k : Instruction). IsRead (instruction k) c.args.element.now (λ b. b)) (sym c.in-Attribute.is) (no_attribute_read c.args.element.now)

pub returns-in-ApplyTemplates-clause-ok : goal.returns-in-ApplyTemplates-clause-ok
returns-in-ApplyTemplates-clause-ok c = begun c.args.element.now c.args.instruction _ c.apply_templates.result c.in-ApplyTemplates.is c.apply_templates.ensures.ok

pub returns-in-ApplyTemplates-clause-no : goal.returns-in-ApplyTemplates-clause-no
returns-in-ApplyTemplates-clause-no c = refused c.args.element.now c.args.instruction _ c.apply_templates.result c.in-ApplyTemplates.is c.apply_templates.ensures.no

pub returns-in-CallTemplate-clause-ok : goal.returns-in-CallTemplate-clause-ok
returns-in-CallTemplate-clause-ok c = begun c.args.element.now c.args.instruction _ c.call_template.result c.in-CallTemplate.is c.call_template.ensures.ok

pub returns-in-CallTemplate-clause-no : goal.returns-in-CallTemplate-clause-no
returns-in-CallTemplate-clause-no c = refused c.args.element.now c.args.instruction _ c.call_template.result c.in-CallTemplate.is c.call_template.ensures.no

pub returns-in-ValueOf-clause-ok : goal.returns-in-ValueOf-clause-ok
returns-in-ValueOf-clause-ok c = begun c.args.element.now c.args.instruction _ c.value_of.result c.in-ValueOf.is c.value_of.ensures.ok

pub returns-in-ValueOf-clause-no : goal.returns-in-ValueOf-clause-no
returns-in-ValueOf-clause-no c = refused c.args.element.now c.args.instruction _ c.value_of.result c.in-ValueOf.is c.value_of.ensures.no

pub returns-in-ForEach-clause-ok : goal.returns-in-ForEach-clause-ok
returns-in-ForEach-clause-ok c = begun c.args.element.now c.args.instruction _ c.for_each.result c.in-ForEach.is c.for_each.ensures.ok

pub returns-in-ForEach-clause-no : goal.returns-in-ForEach-clause-no
returns-in-ForEach-clause-no c = refused c.args.element.now c.args.instruction _ c.for_each.result c.in-ForEach.is c.for_each.ensures.no

pub returns-in-If-clause-ok : goal.returns-in-If-clause-ok
returns-in-If-clause-ok c = begun c.args.element.now c.args.instruction _ c.begin_if.result c.in-If.is c.begin_if.ensures.ok

pub returns-in-If-clause-no : goal.returns-in-If-clause-no
returns-in-If-clause-no c = refused c.args.element.now c.args.instruction _ c.begin_if.result c.in-If.is c.begin_if.ensures.no

pub returns-in-Choose-clause-ok : goal.returns-in-Choose-clause-ok
returns-in-Choose-clause-ok c = begun c.args.element.now c.args.instruction _ c.begin_choose.result c.in-Choose.is c.begin_choose.ensures.ok

pub returns-in-Choose-clause-no : goal.returns-in-Choose-clause-no
returns-in-Choose-clause-no c = refused c.args.element.now c.args.instruction _ c.begin_choose.result c.in-Choose.is c.begin_choose.ensures.no

pub returns-in-Text-clause-ok : goal.returns-in-Text-clause-ok
returns-in-Text-clause-ok c = begun c.args.element.now c.args.instruction _ c.text.result c.in-Text.is c.text.ensures.ok

pub returns-in-Text-clause-no : goal.returns-in-Text-clause-no
returns-in-Text-clause-no c = refused c.args.element.now c.args.instruction _ c.text.result c.in-Text.is c.text.ensures.no

pub returns-in-Copy-clause-ok : goal.returns-in-Copy-clause-ok
returns-in-Copy-clause-ok c = begun c.args.element.now c.args.instruction _ c.begin_copy.result c.in-Copy.is c.begin_copy.ensures.ok

pub returns-in-Copy-clause-no : goal.returns-in-Copy-clause-no
returns-in-Copy-clause-no c = refused c.args.element.now c.args.instruction _ c.begin_copy.result c.in-Copy.is c.begin_copy.ensures.no

pub returns-in-Element-clause-ok : goal.returns-in-Element-clause-ok
returns-in-Element-clause-ok c = begun c.args.element.now c.args.instruction _ c.begin_element.result c.in-Element.is c.begin_element.ensures.ok

pub returns-in-Element-clause-no : goal.returns-in-Element-clause-no
returns-in-Element-clause-no c = refused c.args.element.now c.args.instruction _ c.begin_element.result c.in-Element.is c.begin_element.ensures.no

pub returns-in-CopyOf-clause-ok : goal.returns-in-CopyOf-clause-ok
returns-in-CopyOf-clause-ok c = begun c.args.element.now c.args.instruction _ c.copy_of.result c.in-CopyOf.is c.copy_of.ensures.ok

pub returns-in-CopyOf-clause-no : goal.returns-in-CopyOf-clause-no
returns-in-CopyOf-clause-no c = refused c.args.element.now c.args.instruction _ c.copy_of.result c.in-CopyOf.is c.copy_of.ensures.no

pub returns-in-Attribute-clause-no : goal.returns-in-Attribute-clause-no
returns-in-Attribute-clause-no c = tt
