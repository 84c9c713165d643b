use Rattle.std.proofs.Common.{sym, refl, ◌∙◌}
use Rattle.std.proofs.lemmas.Bool.{true≢false}
use Rattle.tc_model.specs.Views.{name}
use Rattle.tc_sheet.specs.Constructs.{unknown}
use Rattle.tc_sheet.specs.Views.{instruction}
use Rattle.tc_sheet.proofs.Unrefused.{unrefused_by}
use Rattle.tc_sheet.proofs.ElementLaws.{reason_is, instruction_is, refused_by, is_unknown, mapped_none, mapped_some}
use Rattle.tc_sheet.proofs.elements.misplaced.Goals.{then-is_part-via-then-is_part, then-is_part-via-else-is_part+then-is_some}
use Rattle.tc_sheet.proofs.elements.misplaced.Goals as goal

pub returns-in-Some : goal.returns-in-Some
returns-in-Some c = (refl, refused_by (name c.args.element.now.name) c.if-not-is_xslt.ensures c.in-Some.why (sym c.in-Some.ensures))

pub returns : goal.returns
returns c = (refl, unknown (is_unknown (name c.args.element.now.name) c.if-not-is_xslt.ensures (sym c.in_default.ensures) (sym c.instruction_in.ensures ∙ mapped_none instruction c.instruction_in.result (sym c.if-is_some.ensures)) (sym c.if-is_part.ensures)))

pub returns-then-is_part : goal.returns-then-is_part
returns-then-is_part c =
    let n = name c.args.element.now.name in (
      refl,
      unrefused_by n (reason_is n c.if-not-is_xslt.ensures (sym c.in_default.ensures)) (elim c.then-is_part.branch [
        | then-is_part-via-then-is_part w ↦ λ u. true≢false (w.if-is_part.ensures ∙ u.no_part)
        | then-is_part-via-else-is_part+then-is_some w ↦ λ u.
            mapped_some instruction w.instruction_in.result (sym w.if-is_some.ensures) (sym (instruction_is n c.if-not-is_xslt.ensures (sym w.instruction_in.ensures)) ∙ u.no_instruction)
      ]),
    )
