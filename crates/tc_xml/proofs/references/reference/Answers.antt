use Rattle.std.proofs.Common.{refl, subst}
use Rattle.tc_model.proofs.XmlTextRefused.{other_no_reference}
use Rattle.tc_model.specs.XmlTextRefusals.{OtherEntityAt}
use Rattle.tc_scan.specs.References.{Lacks}
use Rattle.tc_xml.proofs.references.reference.Goals as goal

pub returns-in-Err-Malformed-clause-no : goal.returns-in-Err-Malformed-clause-no
returns-in-Err-Malformed-clause-no c = subst (λ e. Lacks e c.args.text.now) c.in-Err-Malformed.field-0-is c.in-Err-Malformed.ensures.no

pub returns-in-Err-OtherEntity-clause-no : goal.returns-in-Err-OtherEntity-clause-no
returns-in-Err-OtherEntity-clause-no c = λ s after r.
    let other : OtherEntityAt c.args.text.now = subst (λ e. Lacks e c.args.text.now) c.in-Err-OtherEntity.field-0-is c.in-Err-OtherEntity.ensures.no in
    other_no_reference other r

pub returns-in-Err-OtherEntity-clause-stands : goal.returns-in-Err-OtherEntity-clause-stands
returns-in-Err-OtherEntity-clause-stands c =
    (c.args.text.now, refl, (refl, refl, subst (λ e. Lacks e c.args.text.now) c.in-Err-OtherEntity.field-0-is c.in-Err-OtherEntity.ensures.no))
