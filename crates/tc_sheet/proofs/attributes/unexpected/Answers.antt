use Rattle.std.proofs.Common.{sym}
use Rattle.tc_model.specs.Views.{name, attribute}
use Rattle.tc_sheet.specs.Readings.{scope_of}
use Rattle.tc_sheet.proofs.NameLaws.{escaping_at, sets_at, namespace_at, extension_at, place_at}
use Rattle.tc_sheet.proofs.Unrefused.{not_always, not_plain, unexpected_unrefused}
use Rattle.tc_sheet.proofs.attributes.unexpected.Goals.{else-eq-3-via-then-eq-3+else-is_xsl, else-eq-3-via-else-eq-3, else-eq-4-via-then-eq-4+else-is_root, else-eq-4-via-else-eq-4}
use Rattle.tc_sheet.proofs.attributes.unexpected.Goals as goal

pub returns-then-eq : goal.returns-then-eq
returns-then-eq c = escaping_at c.args.element.now c.args.attribute.now c.requires.own.has c.requires.own.xslt c.requires.plain (sym c.if-eq.ensures)

pub returns-then-eq-2 : goal.returns-then-eq-2
returns-then-eq-2 c = sets_at c.args.element.now c.args.attribute.now c.requires.own.has c.requires.own.xslt c.requires.plain (sym c.if-eq-2.ensures)

pub returns-then-is_xsl : goal.returns-then-is_xsl
returns-then-is_xsl c = namespace_at c.args.element.now c.args.attribute.now c.requires.own.has c.requires.own.xslt c.requires.plain (sym c.if-eq-3.ensures) c.if-is_xsl.ensures

pub returns-then-is_root : goal.returns-then-is_root
returns-then-is_root c = extension_at c.args.element.now c.args.attribute.now c.requires.own.has c.requires.own.xslt c.requires.plain (sym c.if-eq-4.ensures) c.if-is_root.ensures

pub returns-else-eq-4 : goal.returns-else-eq-4
returns-else-eq-4 c =
    place_at c.args.element.now c.args.attribute.now c.requires.own.has
    (unexpected_unrefused (name c.args.element.now.name) (scope_of c.args.element.now) (attribute c.args.attribute.now) c.requires.own.xslt
    (not_always (attribute c.args.attribute.now).name (sym c.if-eq.ensures) (sym c.if-eq-2.ensures))
    (elim c.else-eq-3.branch [
      | else-eq-3-via-then-eq-3+else-is_xsl w ↦ λ is e. w.if-is_xsl.ensures is
      | else-eq-3-via-else-eq-3 w ↦ λ is e. not_plain (sym w.if-eq-3.ensures) e
    ])
    (elim c.else-eq-4.branch [
      | else-eq-4-via-then-eq-4+else-is_root w ↦ λ is e. w.if-is_root.ensures is
      | else-eq-4-via-else-eq-4 w ↦ λ is e. not_plain (sym w.if-eq-4.ensures) e
    ])
    c.requires.unweighed)
