use Rattle.std.proofs.Common.{map, subst, sym}
use Rattle.std.specs.List.{IsDistinct}
use Rattle.std.proofs.lemmas.Result.{IfErr-weaker}
use Rattle.tc_model.specs.Names.{same_name}
use Rattle.tc_model.specs.RawTrees.{none}
use Rattle.tc_model.specs.Views.{raw_element}
use Rattle.tc_sheet.specs.Views.{template}
use Rattle.tc_sheet.specs.SeenCalls.{names_seen}
use Rattle.tc_sheet.proofs.Passed.{no_value}
use Rattle.tc_sheet.proofs.Refused.{handed_on}
use Rattle.tc_sheet.proofs.WholeSheets.{names_used, told, told_calls, told_memory, told_twice, whole_read}
use Rattle.tc_sheet.proofs.sheet_in.Goals as goal

pub returns-in_err-written-clause-no : goal.returns-in_err-written-clause-no
returns-in_err-written-clause-no c =
    handed_on _ c.from_residual.result c.in_err-written.field-0.0 c.from_residual.ensures.1
    (told (raw_element c.args.element.now none) c.in_err-written.field-0.0 c.in_err-written.ensures.no c.in_err-written.ensures.calls)

pub returns-in_err-names-clause-no : goal.returns-in_err-names-clause-no
returns-in_err-names-clause-no c =
    handed_on _ c.from_residual-in_err-names.result c.in_err-names.field-0.0 c.from_residual-in_err-names.ensures.1
    (told_twice (raw_element c.args.element.now none) (map template c.in_ok-written.written.now) c.in_ok-written.ensures.ok c.in_err-names.field-0.0 c.in_err-names.ensures.no)

pub returns-in_err-templates-clause-no : goal.returns-in_err-templates-clause-no
returns-in_err-templates-clause-no c =
    handed_on _ c.from_residual-in_err-templates.result c.in_err-templates.field-0.0 c.from_residual-in_err-templates.ensures.1 (told_memory (raw_element c.args.element.now none) c.in_err-templates.field-0.0 c.in_err-templates.ensures.no)

pub returns-in_err-check_calls-clause-no : goal.returns-in_err-check_calls-clause-no
returns-in_err-check_calls-clause-no c =
    handed_on _ c.from_residual-in_err-check_calls.result c.in_err-check_calls.field-0.0 c.from_residual-in_err-check_calls.ensures.1
    (told_calls (raw_element c.args.element.now none) (map template c.in_ok-written.written.now) c.in_ok-written.ensures.ok c.in_ok-names.ensures.once (map template c.in_ok-templates.templates.now)
    c.in_ok-templates.ensures.ok c.in_err-check_calls.field-0.0 c.in_err-check_calls.ensures.no)

pub returns-in_err-modes-clause-no : goal.returns-in_err-modes-clause-no
returns-in_err-modes-clause-no c =
    handed_on _ c.from_residual-in_err-modes.result c.in_err-modes.field-0.0 c.from_residual-in_err-modes.ensures.1 (told_memory (raw_element c.args.element.now none) c.in_err-modes.field-0.0 c.in_err-modes.ensures.no)

pub sheet_of-requires-clause-names : goal.sheet_of-requires-clause-names
sheet_of-requires-clause-names c = names_used (map template c.in_ok-written.written.now) (map template c.in_ok-templates.templates.now) (names_seen c.in_ok-names.names.now) c.in_ok-templates.ensures.ok c.in_ok-names.ensures.ok

pub returns-clause-ok : goal.returns-clause-ok
returns-clause-ok c =
    whole_read (raw_element c.args.element.now none) (map template c.in_ok-written.written.now) c.in_ok-written.ensures.ok c.in_ok-names.ensures.once (map template c.in_ok-templates.templates.now) (map template c.in_ok-templates.templates.now) c.in_ok-templates.ensures.ok c.in_ok-templates.ensures.ok
    c.in_ok-check_calls.ensures.defined c.in_ok-check_calls.ensures.no_loop c.sheet_of.result c.sheet_of.ensures.ok

pub returns-in_err-written-clause-ok : goal.returns-in_err-written-clause-ok
returns-in_err-written-clause-ok c = no_value c.from_residual.result _ _ c.from_residual.ensures.1

pub returns-in_err-names-clause-ok : goal.returns-in_err-names-clause-ok
returns-in_err-names-clause-ok c = no_value c.from_residual-in_err-names.result _ _ c.from_residual-in_err-names.ensures.1

pub returns-in_err-templates-clause-ok : goal.returns-in_err-templates-clause-ok
returns-in_err-templates-clause-ok c = no_value c.from_residual-in_err-templates.result _ _ c.from_residual-in_err-templates.ensures.1

pub returns-in_err-check_calls-clause-ok : goal.returns-in_err-check_calls-clause-ok
returns-in_err-check_calls-clause-ok c = no_value c.from_residual-in_err-check_calls.result _ _ c.from_residual-in_err-check_calls.ensures.1

pub returns-in_err-modes-clause-ok : goal.returns-in_err-modes-clause-ok
returns-in_err-modes-clause-ok c = no_value c.from_residual-in_err-modes.result _ _ c.from_residual-in_err-modes.ensures.1

pub sheet_of-requires-clause-modes : goal.sheet_of-requires-clause-modes
sheet_of-requires-clause-modes c = c.in_ok-modes.ensures.ok

pub returns-clause-no : goal.returns-clause-no
returns-clause-no c = IfErr-weaker c.sheet_of.result _ _ (λ x e. told_memory (raw_element c.args.element.now none) x e) c.sheet_of.ensures.no

pub check_calls-requires : goal.check_calls-requires
check_calls-requires c = record {
  names = names_used (map template c.in_ok-written.written.now) (map template c.in_ok-templates.templates.now) (names_seen c.in_ok-names.names.now) c.in_ok-templates.ensures.ok c.in_ok-names.ensures.ok;
  once = subst (IsDistinct same_name) (sym c.in_ok-names.ensures.ok) c.in_ok-names.ensures.once;
}
